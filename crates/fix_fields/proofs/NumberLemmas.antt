-- Digits and their number.
use Rattle.std.proofs.Common.{◌≡◌, ℕ, zero, suc, ◌+◌, ◌*◌, ◌^◌, ◌<◌, ◌≤◌, List, [], ◌∷◌, ◌++◌, length, get_or, take, refl, ap, ◌∙◌, arith}
use Rattle.std.specs.Char.{digit_value}
use Rattle.std.specs.Str.Parse.{digits_value_after, AllDigits}
use Rattle.std.proofs.lemmas.List.{take_more}
use Rattle.std.proofs.lemmas.Str.{digit_value_digit}
use Rattle.std.proofs.lemmas.Str.Parse.{digit_at}
use Rattle.std.proofs.lemmas.Int.Digits.{digits_more}
use Rattle.fix_fields.specs.Value.{IsDigitsOf}
use Rattle.fix_fields.specs.Parts.{IsDigitsAfter}

-- a byte that is no digit
pub no_digit : (front : ℕ) (value : List ℕ) (i : ℕ) → i < length value → (48 ≤ get_or value i 0 → get_or value i 0 ≤ 57 → ⊥) → (number : ℕ) → IsDigitsAfter front number value → ⊥
no_digit front value i lt not number h = let d = digit_at value i h.digits lt in not d.0 d.1

-- one run of digits behind another
pub after-append : (front : ℕ) (a b : List ℕ) → digits_value_after 10 front (a ++ b) ≡ digits_value_after 10 (digits_value_after 10 front a) b
after-append front [] b = refl
after-append front (c ∷ a) b = after-append (front * 10 + digit_value c) a b

-- one more digit
after_more : (front : ℕ) (value : List ℕ) (i : ℕ) → i < length value → digits_value_after 10 front (take (i + 1) value) ≡ digits_value_after 10 front (take i value) * 10 + digit_value (get_or value i 0)
after_more front value i lt = ap (digits_value_after 10 front) (take_more value i 0 lt) ∙ after-append front (take i value) (get_or value i 0 ∷ [])

pub number_more : (front : ℕ) (value : List ℕ) (i number digit : ℕ) → i < length value → number ≡ digits_value_after 10 front (take i value) → 48 ≤ get_or value i 0 → get_or value i 0 ≤ 57 → digit + 48 ≡ get_or value i 0 → number * 10 + digit ≡ digits_value_after 10 front (take (i + 1) value)
number_more front value i number digit lt e low high is = omega (arith, e, after_more front value i lt, digit_value_digit (get_or value i 0) (low, high), is)

-- more digits make no less
pub after_least : (front : ℕ) (value : List ℕ) → front ≤ digits_value_after 10 front value
after_least front [] = omega arith
after_least front (c ∷ cs) = omega (arith, after_least (front * 10 + digit_value c) cs)

after_front : (front : ℕ) (value : List ℕ) (i : ℕ) → digits_value_after 10 front (take i value) ≤ digits_value_after 10 front value
after_front front value zero = after_least front value
after_front front [] (suc i) = omega arith
after_front front (c ∷ cs) (suc i) = after_front (front * 10 + digit_value c) cs i

-- a front of the digits is too large
pub too_large : (front : ℕ) (value : List ℕ) (i n : ℕ) → n ≡ digits_value_after 10 front (take i value) → 10 ^ 15 ≤ n → (number : ℕ) → IsDigitsAfter front number value → ⊥
too_large front value i n e large number h = omega (arith, h.below, h.says, e, after_front front value i)

-- one more byte that is a digit
pub more_digits : (value : List ℕ) (i : ℕ) → i < length value → AllDigits 10 (take i value) → 48 ≤ get_or value i 0 → get_or value i 0 ≤ 57 → AllDigits 10 (take (i + 1) value)
more_digits value i lt all low high = digits_more 10 value i lt all (omega (arith, digit_value_digit (get_or value i 0) (low, high)))

-- digits that follow no others
pub of_after : (number : ℕ) (value : List ℕ) → 0 < length value → IsDigitsAfter 0 number value → IsDigitsOf number value
of_after number value some h = record { digits = h.digits; some = some; below = omega (arith, h.below, h.says); says = h.says }

pub after_of : (number : ℕ) (value : List ℕ) → IsDigitsOf number value → IsDigitsAfter 0 number value
after_of number value h = record { digits = h.digits; below = omega (arith, h.below, h.says); says = h.says }

-- each run of digits
pub digits_front : (a b : List ℕ) → AllDigits 10 (a ++ b) → AllDigits 10 a
digits_front [] b all = tt
digits_front (x ∷ a) b all = (all.0, digits_front a b all.1)

pub digits_behind : (a b : List ℕ) → AllDigits 10 (a ++ b) → AllDigits 10 b
digits_behind [] b all = all
digits_behind (x ∷ a) b all = digits_behind a b all.1
