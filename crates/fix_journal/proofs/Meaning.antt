-- A file has one list of records, or one first place at which it breaks the format.
use Rattle.std.proofs.Common.{◌≡◌, ◌≢◌, inl, inr, ℕ, List, [], ◌∷◌, ◌++◌, length, take, drop, get_or, refl, sym, ◌∙◌, ap, arith, append_assoc, length-append}
use Rattle.std.specs.Prelude.{All}
use Rattle.fix_journal.specs.Format.{OPEN, IsPayload, body_of, recorded, front, IsMade, IsJournal, HasRecords, HoldsNoRecord, IsDamagedAt}
use Rattle.fix_journal.proofs.Gates.{length-front}
use Rattle.fix_journal.proofs.Unique.{one_body, first_of, later_of, unique}

is_made : (file : List ℕ) (ps : List (List ℕ)) → IsJournal file ps → IsMade file
is_made file ps j = (omega (arith, ap length j.is, length-append (front ps) (j.gate ∷ j.behind), length-front ps), ap (λ l. get_or l 0 0) j.is)

-- a record stands there, whatever comes behind it
no_front : (q : List ℕ) (qs : List (List ℕ)) (gate : ℕ) (y x : List ℕ) → IsPayload q → HoldsNoRecord x → x ≡ body_of q ++ (recorded qs ++ gate ∷ y) → ⊥
no_front q [] gate y x fits none is = none q gate y fits is
no_front q (r ∷ rs) gate y x fits none is = none q OPEN ((body_of r ++ recorded rs) ++ gate ∷ y) fits is

one_further : (p q : List ℕ) (ps qs : List (List ℕ)) (x y : List ℕ) → IsPayload p → IsPayload q → recorded (p ∷ ps) ++ x ≡ recorded (q ∷ qs) ++ y → (p ≡ q) × (recorded ps ++ x ≡ recorded qs ++ y)
one_further p q ps qs x y fits fits' same =
    one_body p q (recorded ps ++ x) (recorded qs ++ y) fits fits' (sym (append_assoc (body_of p) (recorded ps) x) ∙ ap (drop 1) same ∙ append_assoc (body_of q) (recorded qs) y)

no_break : (ps qs : List (List ℕ)) (gate : ℕ) (x rest : List ℕ) → All IsPayload ps → All IsPayload qs → gate ≢ OPEN → HoldsNoRecord rest → recorded ps ++ gate ∷ x ≡ recorded qs ++ OPEN ∷ rest → ⊥
no_break [] [] gate x rest each each' shut none same = shut (ap (λ l. get_or l 0 0) same)
no_break [] (q ∷ qs) gate x rest each each' shut none same = shut (ap (λ l. get_or l 0 0) same)
no_break (p ∷ ps) [] gate x rest each each' shut none same = no_front p ps gate x rest (first_of p ps each) none (ap (drop 1) (sym same) ∙ append_assoc (body_of p) (recorded ps) (gate ∷ x))
no_break (p ∷ ps) (q ∷ qs) gate x rest each each' shut none same =
    no_break ps qs gate x rest (later_of p ps each) (later_of q qs each') shut none (one_further p q ps qs (gate ∷ x) (OPEN ∷ rest) (first_of p ps each) (first_of q qs each') same).1

one_break : (ps qs : List (List ℕ)) (x y : List ℕ) → All IsPayload ps → All IsPayload qs → HoldsNoRecord x → HoldsNoRecord y → recorded ps ++ OPEN ∷ x ≡ recorded qs ++ OPEN ∷ y → ps ≡ qs
one_break [] [] x y each each' none none' same = refl
one_break [] (q ∷ qs) x y each each' none none' same = absurd (no_front q qs OPEN y x (first_of q qs each') none (ap (drop 1) same ∙ append_assoc (body_of q) (recorded qs) (OPEN ∷ y)))
one_break (p ∷ ps) [] x y each each' none none' same = absurd (no_front p ps OPEN x y (first_of p ps each) none' (ap (drop 1) (sym same) ∙ append_assoc (body_of p) (recorded ps) (OPEN ∷ x)))
one_break (p ∷ ps) (q ∷ qs) x y each each' none none' same =
    let both = one_further p q ps qs (OPEN ∷ x) (OPEN ∷ y) (first_of p ps each) (first_of q qs each') same in
    let later = one_break ps qs x y (later_of p ps each) (later_of q qs each') none none' both.1 in
    λ i. both.0 i ∷ later i

pub one_list_of_records : (file : List ℕ) (ps qs : List (List ℕ)) → HasRecords file ps → HasRecords file qs → ps ≡ qs
one_list_of_records file ps qs (inl a) (inl b) = a.1 ∙ sym b.1
one_list_of_records file ps qs (inl a) (inr b) = absurd (a.0 (is_made file qs b))
one_list_of_records file ps qs (inr a) (inl b) = absurd (b.0 (is_made file ps a))
one_list_of_records file ps qs (inr a) (inr b) = unique file ps qs a b

pub not_both : (file : List ℕ) (ps : List (List ℕ)) (place : ℕ) → HasRecords file ps → IsDamagedAt file place → ⊥
not_both file ps place (inl unmade) damaged = unmade.0 damaged.0
not_both file ps place (inr j) (made, inl misnamed) = misnamed.1 (ap (λ l. take 8 (drop 1 l)) j.is)
not_both file ps place (inr j) (made, inr b) = no_break ps b.payloads j.gate j.behind b.rest j.each b.each j.closed b.none (ap (drop 9) (sym j.is ∙ b.is))

pub one_first_place : (file : List ℕ) (p q : ℕ) → IsDamagedAt file p → IsDamagedAt file q → p ≡ q
one_first_place file p q (made, inl a) (made', inl b) = a.0 ∙ sym b.0
one_first_place file p q (made, inl a) (made', inr b) = absurd (a.1 (ap (λ l. take 8 (drop 1 l)) b.is))
one_first_place file p q (made, inr a) (made', inl b) = absurd (b.1 (ap (λ l. take 8 (drop 1 l)) a.is))
one_first_place file p q (made, inr a) (made', inr b) = a.at ∙ ap (λ l. length (front l)) (one_break a.payloads b.payloads a.rest b.rest a.each b.each a.none b.none (ap (drop 9) (sym a.is ∙ b.is))) ∙ sym b.at
