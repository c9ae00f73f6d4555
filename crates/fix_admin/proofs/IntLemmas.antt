-- What the reading of an `int` answers is what the definition says.
use Rattle.std.proofs.Common.{◌≡◌, ℕ, ◌≤◌, ◌&&◌, ◌==◌, nat_lt, if◌then◌else◌, Bool, true, false, List, [], ◌∷◌, length, Option, Some, None, refl, sym, ap, ◌∙◌, arith}
use Rattle.std.specs.Prelude.{ℤ, pos, neg_ℤ, option_map, IfSome}
use Rattle.std.specs.Str.{all_ascii_digits}
use Rattle.std.specs.Str.Parse.{digits_value, AllDigits}
use Rattle.std.proofs.lemmas.Bool.{and_from, lt-ltb, ltb-true, leb-true, eqb-true}
use Rattle.std.proofs.lemmas.Str.Parse.{IsNumeralModel, numerals_by_value, tells_all_ascii_digits}
use Rattle.fix_fields.specs.Value.{IsDigitsOf, IsInt, plain, minus}
use Rattle.fix_admin.specs.Values.{size_in, int_in}

ascii : IsNumeralModel (λ ds. all_ascii_digits ds ≡ true) (digits_value 10)
ascii = numerals_by_value (λ ds. all_ascii_digits ds ≡ true) tells_all_ascii_digits

both : (a b : Bool) → (a && b) ≡ true → (a ≡ true) × (b ≡ true)
both true b e = (refl, e)
both false b e = cc

some_case : (b : Bool) (n : ℕ) → b ≡ true → (if b then Some n else None) ≡ Some n
some_case true n e = refl
some_case false n e = cc

some_back : (b : Bool) (m n : ℕ) → (if b then Some m else None) ≡ Some n → (b ≡ true) × (m ≡ n)
some_back true m n e = (refl, cc)
some_back false m n e = cc

abbrev is_size : List ℕ → Bool
is_size v = all_ascii_digits v && (nat_lt 0 (length v) && nat_lt (digits_value 10 v) 1000000000000000)

of_digits : (v : List ℕ) (n : ℕ) → IsDigitsOf n v → size_in v ≡ Some n
of_digits v n h =
    some_case (is_size v) (digits_value 10 v) (and_from (all_ascii_digits v) _ (ascii.from v h.digits) (and_from (nat_lt 0 (length v)) _ (lt-ltb 0 (length v) h.some) (lt-ltb (digits_value 10 v) 1000000000000000 (omega (arith, h.below)))))
    ∙ ap Some (sym h.says)

to_digits : (v : List ℕ) (n : ℕ) → size_in v ≡ Some n → IsDigitsOf n v
to_digits v n e =
    let s = some_back (is_size v) (digits_value 10 v) n e in
    let p = both (all_ascii_digits v) _ s.0 in
    let q = both (nat_lt 0 (length v)) _ p.1 in
    let small = ltb-true (digits_value 10 v) 1000000000000000 q.1 in
    record { digits = ascii.to v p.0; some = ltb-true 0 (length v) q.0; below = omega (arith, small); says = sym s.1 }

no_minus : (b : ℕ) (bs : List ℕ) → AllDigits 10 (b ∷ bs) → (b == 45) ≡ false
no_minus b bs h =
    let p = both _ (all_ascii_digits bs) (ascii.from (b ∷ bs) h) in
    let q = both _ _ p.0 in
    let low = leb-true 48 b q.0 in
    other b low
  where
    other : (b : ℕ) → 48 ≤ b → (b == 45) ≡ false
    other b low = grind arith

plain_case : (b : Bool) (x y : Option ℤ) → b ≡ false → (if b then x else y) ≡ y
plain_case true x y e = cc
plain_case false x y e = refl

pub int_reads : (v : List ℕ) (n : ℤ) → IsInt v n → int_in v ≡ Some n
int_reads [] n (plain size h e) = absurd (omega (arith, h.some))
int_reads (b ∷ bs) n (plain size h e) =
    plain_case (b == 45) _ (option_map pos (size_in (b ∷ bs))) (no_minus b bs h.digits) ∙ ap (option_map pos) (of_digits (b ∷ bs) size h) ∙ ap Some (sym e)
int_reads v n (minus size digits is h e) =
    ap int_in is ∙ ap (option_map (λ k. neg_ℤ (pos k))) (of_digits digits size h) ∙ ap Some (sym e)

mapped : (f : ℕ → ℤ) (o : Option ℕ) (n : ℤ) → option_map f o ≡ Some n → (k : ℕ) × (o ≡ Some k) × (n ≡ f k)
mapped f None n e = cc
mapped f (Some k) n e = (k, refl, cc)

back_by : (t : Bool) (b : ℕ) (bs : List ℕ) (n : ℤ) → (b == 45) ≡ t → (if t then option_map (λ k. neg_ℤ (pos k)) (size_in bs) else option_map pos (size_in (b ∷ bs))) ≡ Some n → IsInt (b ∷ bs) n
back_by true b bs n is e =
    let m = mapped (λ k. neg_ℤ (pos k)) (size_in bs) n e in
    minus m.0 bs (ap (λ (x : ℕ). x ∷ bs) (eqb-true b 45 is)) (to_digits bs m.0 m.1) m.2
back_by false b bs n is e =
    let m = mapped pos (size_in (b ∷ bs)) n e in
    plain m.0 (to_digits (b ∷ bs) m.0 m.1) m.2

pub int_back : (v : List ℕ) (n : ℤ) → int_in v ≡ Some n → IsInt v n
int_back [] n e = cc
int_back (b ∷ bs) n e = back_by (b == 45) b bs n refl e

none_is : (v : List ℕ) (x : Option ℤ) → int_in v ≡ x → ((n : ℤ) → IsInt v n → None ≡ Some n) → None ≡ x
none_is v None e each = refl
none_is v (Some n) e each = each n (int_back v n e)

pub int_is : (v : List ℕ) (r : Option ℤ) → IfSome r (λ n. IsInt v n) → ((n : ℤ) → IsInt v n → r ≡ Some n) → r ≡ int_in v
int_is v None known each = none_is v (int_in v) refl each
int_is v (Some n) known each = sym (int_reads v n known)
