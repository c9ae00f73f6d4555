-- The fixed places of a frame, one after another.
use Rattle.std.proofs.Common.{ℕ, ◌-◌, List, [], ◌∷◌, ◌++◌, refl, sym, ◌∙◌, arith, lit≤, lit<, Result}
use Rattle.std.specs.Prelude.{codes}
use Rattle.std.proofs.lemmas.List.{length-replicate}
use Rattle.std.proofs.Common.{replicate}
use Rattle.fix_base.specs.declared.no_match.NoMatch.{NoMatch}
use Rattle.fix_base.specs.Front.{Begins, Stops, Scans, ScansOf, SomeOf, ◌▹◌}
use Rattle.fix_base.specs.Frame.{IsText, IsLong, IsLine, IsVersion, IsLengthOf, IsHead, IsBody, IsSumOf, IsTrailer}
use Rattle.fix_base.proofs.Fronts.{IsPrefixFree, both_free, both_inhabited, stops_first, stops_second, stops_first_of, stops_second_of, reads_second, reads_second_of}
use Rattle.fix_base.proofs.Pieces.{text_free, long_free, line_free}
use Rattle.fix_base.proofs.Digits.{digits_no_soh}

version_free : IsPrefixFree (λ (_ : Unit {0}). IsLine IsVersion)
version_free = line_free (λ (_ : Unit {0}). IsVersion) (λ _ _ _ _ _. refl)

length_free : IsPrefixFree (λ n. IsLine (IsLengthOf n))
length_free = line_free IsLengthOf (λ m n a p q. sym p.number ∙ q.number)

abbrev Number : ℕ → List ℕ → Type 0
Number n = IsText (codes "9=") ▹ IsLine (IsLengthOf n)

abbrev Behind : ℕ → List ℕ → Type 0
Behind n = IsLine IsVersion ▹ Number n

pub head_free : IsPrefixFree IsHead
head_free = both_free (IsText (codes "8=FIX")) Behind (text_free _) (both_free (IsLine IsVersion) Number version_free (both_free (IsText (codes "9=")) (λ n. IsLine (IsLengthOf n)) (text_free _) length_free))

-- `5|`
some_length : (b : List ℕ) × SomeOf (λ n. IsLine (IsLengthOf n)) b
some_length = (codes "5" ++ 1 ∷ [], (5, record { value = codes "5"; no_soh = digits_no_soh (codes "5") (lit< tt, tt); is = record { digits = (lit< tt, tt); few = lit≤ tt; some = lit< tt; number = refl; low = lit≤ tt; high = lit≤ tt }; spelled = refl }))

some_number : (b : List ℕ) × SomeOf Number b
some_number = both_inhabited (IsText (codes "9=")) (λ n. IsLine (IsLengthOf n)) (codes "9=") refl some_length

some_behind : (b : List ℕ) × SomeOf Behind b
some_behind = both_inhabited (IsLine IsVersion) Number (1 ∷ []) (record { value = []; no_soh = λ k lt. absurd (omega arith); is = lit≤ tt; spelled = refl }) some_number

pub head_stops_1 : (bytes : List ℕ) (stop : NoMatch) → Stops (IsText (codes "8=FIX")) bytes stop → Stops (SomeOf IsHead) bytes stop
head_stops_1 bytes stop h = stops_first_of (IsText (codes "8=FIX")) Behind bytes stop some_behind h

pub head_stops_2 : (bytes a : List ℕ) (stop : NoMatch) → Begins (IsText (codes "8=FIX")) bytes a → Stops (IsLine IsVersion) a stop → Stops (SomeOf IsHead) bytes stop
head_stops_2 bytes a stop p h = stops_second_of (IsText (codes "8=FIX")) Behind (text_free _) bytes a stop p (stops_first_of (IsLine IsVersion) Number a stop some_number h)

pub head_stops_3 : (bytes a b : List ℕ) (stop : NoMatch) → Begins (IsText (codes "8=FIX")) bytes a → Begins (IsLine IsVersion) a b → Stops (IsText (codes "9=")) b stop → Stops (SomeOf IsHead) bytes stop
head_stops_3 bytes a b stop p q h =
    stops_second_of (IsText (codes "8=FIX")) Behind (text_free _) bytes a stop p
    (stops_second_of (IsLine IsVersion) Number version_free a b stop q (stops_first_of (IsText (codes "9=")) (λ n. IsLine (IsLengthOf n)) b stop some_length h))

pub head_reads : {X : Type 0} (value : X → ℕ) (view : X → List ℕ) (bytes a b d : List ℕ) (r : Result X NoMatch) → Begins (IsText (codes "8=FIX")) bytes a → Begins (IsLine IsVersion) a b → Begins (IsText (codes "9=")) b d → ScansOf value view (λ n. IsLine (IsLengthOf n)) d r → ScansOf value view IsHead bytes r
head_reads value view bytes a b d r p q s h =
    reads_second_of value view (IsText (codes "8=FIX")) Behind (text_free _) bytes a r p
    (reads_second_of value view (IsLine IsVersion) Number version_free a b r q
    (reads_second_of value view (IsText (codes "9=")) (λ n. IsLine (IsLengthOf n)) (text_free _) b d r s h))

-- ---- the body

pub body_free : (n : ℕ) → IsPrefixFree (λ (_ : Unit {0}). IsBody n)
body_free n = both_free {Y = Unit {0}} (IsText (codes "35=")) (λ _. IsLong (n - 4) ▹ IsText (1 ∷ [])) (text_free _) (both_free {Y = Unit {0}} (IsLong (n - 4)) (λ _. IsText (1 ∷ [])) (long_free _) (text_free _))

tail_of : (n : ℕ) → (b : List ℕ) × (IsLong (n - 4) ▹ IsText (1 ∷ [])) b
tail_of n = (replicate (n - 4) 0 ++ 1 ∷ [], record { value = tt; first = replicate (n - 4) 0; second = 1 ∷ []; is_first = length-replicate (n - 4) 0; is_second = refl; spelled = refl })

pub some_body : (n : ℕ) → (b : List ℕ) × IsBody n b
some_body n = let t = tail_of n in (codes "35=" ++ t.0, record { value = tt; first = codes "35="; second = t.0; is_first = refl; is_second = t.1; spelled = refl })

pub body_stops_1 : (n : ℕ) (bytes : List ℕ) (stop : NoMatch) → Stops (IsText (codes "35=")) bytes stop → Stops (IsBody n) bytes stop
body_stops_1 n bytes stop h = stops_first (IsText (codes "35=")) (IsLong (n - 4) ▹ IsText (1 ∷ [])) bytes stop (tail_of n) h

pub body_stops_2 : (n : ℕ) (bytes a : List ℕ) (stop : NoMatch) → Begins (IsText (codes "35=")) bytes a → Stops (IsLong (n - 4)) a stop → Stops (IsBody n) bytes stop
body_stops_2 n bytes a stop p h = stops_second (IsText (codes "35=")) (IsLong (n - 4) ▹ IsText (1 ∷ [])) (text_free _) bytes a stop p (stops_first (IsLong (n - 4)) (IsText (1 ∷ [])) a stop (1 ∷ [], refl) h)

pub body_reads : {X : Type 0} (view : X → List ℕ) (n : ℕ) (bytes a b : List ℕ) (r : Result X NoMatch) → Begins (IsText (codes "35=")) bytes a → Begins (IsLong (n - 4)) a b → Scans view (IsText (1 ∷ [])) b r → Scans view (IsBody n) bytes r
body_reads view n bytes a b r p q h =
    reads_second view (IsText (codes "35=")) (IsLong (n - 4) ▹ IsText (1 ∷ [])) (text_free _) bytes a r p
    (reads_second view (IsLong (n - 4)) (IsText (1 ∷ [])) (long_free _) a b r q h)

-- ---- the trailer

sum_free : IsPrefixFree (λ n. IsLine (IsSumOf n))
sum_free = line_free IsSumOf (λ m n a p q. sym p.number ∙ q.number)

pub trailer_free : IsPrefixFree IsTrailer
trailer_free = both_free (IsText (codes "10=")) (λ n. IsLine (IsSumOf n)) (text_free _) sum_free

some_sum : (b : List ℕ) × SomeOf (λ n. IsLine (IsSumOf n)) b
some_sum = (codes "000" ++ 1 ∷ [], (0, record { value = codes "000"; no_soh = digits_no_soh (codes "000") (lit< tt, (lit< tt, (lit< tt, tt))); is = record { digits = (lit< tt, (lit< tt, (lit< tt, tt))); three = refl; number = refl }; spelled = refl }))

pub some_trailer : (b : List ℕ) × SomeOf IsTrailer b
some_trailer = both_inhabited (IsText (codes "10=")) (λ n. IsLine (IsSumOf n)) (codes "10=") refl some_sum

pub trailer_stops_1 : (bytes : List ℕ) (stop : NoMatch) → Stops (IsText (codes "10=")) bytes stop → Stops (SomeOf IsTrailer) bytes stop
trailer_stops_1 bytes stop h = stops_first_of (IsText (codes "10=")) (λ n. IsLine (IsSumOf n)) bytes stop some_sum h

pub trailer_reads : {X : Type 0} (value : X → ℕ) (view : X → List ℕ) (bytes a : List ℕ) (r : Result X NoMatch) → Begins (IsText (codes "10=")) bytes a → ScansOf value view (λ n. IsLine (IsSumOf n)) a r → ScansOf value view IsTrailer bytes r
trailer_reads value view bytes a r p h = reads_second_of value view (IsText (codes "10=")) (λ n. IsLine (IsSumOf n)) (text_free _) bytes a r p h
