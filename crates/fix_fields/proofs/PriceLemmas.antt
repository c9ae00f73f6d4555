-- Digits with a point among them.
use Rattle.std.proofs.Common.{◌≡◌, ℕ, suc, ◌<◌, Bool, Option, Some, None, List, [], ◌∷◌, ◌++◌, length, get_or, refl, sym, ap, subst, ◌∙◌, arith, inl, inr}
use Rattle.std.specs.Prelude.{IsTrue, ◌↔◌, MatchOption}
use Rattle.std.specs.Option.{is_some}
use Rattle.std.specs.Str.Parse.{digits_value, digits_value_after, AllDigits}
use Rattle.std.proofs.lemmas.List.{length-append, append-nil, get_or_at}
use Rattle.std.proofs.lemmas.Str.Parse.{digit_at}
use Rattle.fix_base.proofs.Digits.{digits-append}
use Rattle.fix_fields.specs.Value.{IsDigitsOf, IsAmount, IsPrice, plus, minus_amount}
use Rattle.fix_fields.specs.Parts.{IsDigitsAfter, AreDigits, HasNoPoint}
use Rattle.fix_fields.proofs.TimedLemmas.{sign_same}
use Rattle.fix_fields.proofs.NumberLemmas.{after-append, after_least, digits_front, digits_behind}

-- ---- two runs of digits

pub two_runs : (whole fraction : List ℕ) (n number : ℕ) → 0 < length (whole ++ fraction) → IsDigitsAfter 0 n whole → IsDigitsAfter n number fraction → IsDigitsOf number (whole ++ fraction)
two_runs whole fraction n number some a b =
    let says : number ≡ digits_value 10 (whole ++ fraction) = b.says ∙ ap (λ m. digits_value_after 10 m fraction) a.says ∙ sym (after-append 0 whole fraction) in
    record { digits = digits-append whole fraction a.digits b.digits; some = some; below = omega (arith, b.below, says); says = says }

pub first_run : (whole fraction : List ℕ) (number : ℕ) → IsDigitsOf number (whole ++ fraction) → IsDigitsAfter 0 (digits_value_after 10 0 whole) whole
first_run whole fraction number h = record {
  digits = digits_front whole fraction h.digits;
  below = omega (arith, h.below, after-append 0 whole fraction, after_least (digits_value_after 10 0 whole) fraction);
  says = refl;
}

pub second_run : (whole fraction : List ℕ) (n number : ℕ) → IsDigitsAfter 0 n whole → IsDigitsOf number (whole ++ fraction) → IsDigitsAfter n number fraction
second_run whole fraction n number a h = record {
  digits = digits_behind whole fraction h.digits;
  below = omega (arith, h.below, h.says);
  says = h.says ∙ after-append 0 whole fraction ∙ ap (λ m. digits_value_after 10 m fraction) (sym a.says);
}

-- ---- the point

-- digits have no point
digits_no_point : (ds : List ℕ) → AllDigits 10 ds → HasNoPoint ds
digits_no_point ds all k lt e = let d = digit_at ds k all lt in omega (arith, d.0, e)

no_point_behind : (b : ℕ) (text : List ℕ) → HasNoPoint (b ∷ text) → HasNoPoint text
no_point_behind b text clear k lt = clear (suc k) (omega arith)

-- what stands before the first point is one text
point_same : (a b x y : List ℕ) → HasNoPoint a → HasNoPoint b → a ++ 46 ∷ x ≡ b ++ 46 ∷ y → (a ≡ b) × (x ≡ y)
point_same [] [] x y p q e = (refl, cc)
point_same [] (d ∷ b) x y p q e = let first : d ≡ 46 = cc in absurd (q 0 (omega arith) first)
point_same (c ∷ a) [] x y p q e = let first : c ≡ 46 = cc in absurd (p 0 (omega arith) first)
point_same (c ∷ a) (d ∷ b) x y p q e =
    let same : c ≡ d = cc in
    let rest : a ++ 46 ∷ x ≡ b ++ 46 ∷ y = cc in
    let more = point_same a b x y (no_point_behind c a p) (no_point_behind d b q) rest in
    (ap (λ n. n ∷ a) same ∙ ap (λ (t : List ℕ). d ∷ t) more.0, more.1)

-- no value with a point is digits alone
point_in : (value whole fraction : List ℕ) → HasNoPoint value → value ≡ whole ++ 46 ∷ fraction → ⊥
point_in value whole fraction clear e =
    clear (length whole) (omega (arith, ap length e, length-append whole (46 ∷ fraction))) (ap (λ (t : List ℕ). get_or t (length whole) 0) e ∙ get_or_at whole 46 fraction 0 (length whole) refl)

-- a value with no point is its digits
pub amount_plain : (value : List ℕ) → HasNoPoint value → IsAmount value → AreDigits (value ++ [])
amount_plain value clear h = elim h.spelled [
  | inl none ↦ record { number = h.number; are = subst (IsDigitsOf h.number) (sym none ∙ sym (append-nil value)) h.digits }
  | inr point ↦ absurd (point_in value h.whole h.fraction clear point)
]

pub plain_amount : (value : List ℕ) → AreDigits (value ++ []) → IsAmount value
plain_amount value h = record { whole = value; fraction = []; number = h.number; digits = h.are; spelled = inl (sym (append-nil value)) }

-- a value with a point is the digits on both sides of it
pub amount_point : (value whole fraction : List ℕ) → HasNoPoint whole → value ≡ whole ++ 46 ∷ fraction → IsAmount value → AreDigits (whole ++ fraction)
amount_point value whole fraction clear e h = elim h.spelled [
  | inl none ↦ absurd (point_in value whole fraction (subst HasNoPoint (sym none) (digits_no_point (h.whole ++ h.fraction) h.digits.digits)) e)
  | inr point ↦
      let same = point_same h.whole whole h.fraction fraction (digits_no_point h.whole (digits_front h.whole h.fraction h.digits.digits)) clear (sym point ∙ e) in
      record { number = h.number; are = subst (λ (t : List ℕ). IsDigitsOf h.number (t ++ fraction)) same.0 (subst (λ (t : List ℕ). IsDigitsOf h.number (h.whole ++ t)) same.1 h.digits) }
]

pub point_amount : (value whole fraction : List ℕ) → value ≡ whole ++ 46 ∷ fraction → AreDigits (whole ++ fraction) → IsAmount value
point_amount value whole fraction e h = record { whole = whole; fraction = fraction; number = h.number; digits = h.are; spelled = inr e }

-- ---- what the readers answer

-- an amount does not begin with a minus
minus_first : (value amount whole rest : List ℕ) → value ≡ 45 ∷ amount → value ≡ whole ++ rest → AllDigits 10 whole → 0 < length whole → ⊥
minus_first value amount [] rest e f all some = omega (arith, some)
minus_first value amount (d ∷ whole) rest e f all some =
    let first : d ≡ 45 = cc in
    let digit = digit_at (d ∷ whole) 0 all (omega arith) in
    omega (arith, first, digit.0)

point_first : (value amount whole fraction : List ℕ) → value ≡ 45 ∷ amount → value ≡ whole ++ 46 ∷ fraction → AllDigits 10 whole → ⊥
point_first value amount [] fraction e f all = omega (arith, ap (λ (t : List ℕ). get_or t 0 0) (sym f ∙ e))
point_first value amount (d ∷ whole) fraction e f all = minus_first value amount (d ∷ whole) (46 ∷ fraction) e f all (omega arith)

no_minus : (value amount : List ℕ) → value ≡ 45 ∷ amount → IsAmount value → ⊥
no_minus value amount e h = elim h.spelled [
  | inl none ↦ minus_first value amount (h.whole ++ h.fraction) [] e (none ∙ sym (append-nil _)) h.digits.digits h.digits.some
  | inr point ↦ point_first value amount h.whole h.fraction e point (digits_front h.whole h.fraction h.digits.digits)
]

unsigned : (value amount : List ℕ) → value ≡ 45 ∷ amount → IsPrice value → IsAmount amount
unsigned value amount e (plus h) = absurd (no_minus value amount e h)
unsigned value amount e (minus_amount other f h) = let same : other ≡ amount = sign_same 45 value other amount f e in subst IsAmount same h

pub runs_are : (whole fraction : List ℕ) (n : ℕ) (r : Option ℕ) → 0 < length (whole ++ fraction) → IsDigitsAfter 0 n whole → MatchOption r ((number : ℕ) → IsDigitsAfter n number fraction → ⊥) (λ number. IsDigitsAfter n number fraction) → (IsTrue (is_some r) ↔ AreDigits (whole ++ fraction))
runs_are whole fraction n None some a never = (λ e. cc, λ h. absurd (never h.number (second_run whole fraction n h.number a h.are)))
runs_are whole fraction n (Some number) some a b = (λ e. record { number = number; are = two_runs whole fraction n number some a b }, λ h. refl)

pub signed : (value amount : List ℕ) (b : Bool) → value ≡ 45 ∷ amount → (IsTrue b ↔ IsAmount amount) → (IsTrue b ↔ IsPrice value)
signed value amount b e iff = (λ t. minus_amount amount e (iff.0 t), λ h. iff.1 (unsigned value amount e h))
