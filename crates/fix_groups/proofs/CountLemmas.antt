-- Reading the number of a count.
use Rattle.std.proofs.Common.{◌≡◌, ℕ, ◌^◌, ◌<◌, ◌≤◌, true, nat_lt, nat_le, ◌&&◌, if◌then◌else◌, List, length, get_or, take, ap, arith, Some, None}
use Rattle.std.specs.Str.{all_ascii_digits}
use Rattle.std.specs.Str.Parse.{digits_value, AllDigits}
use Rattle.std.proofs.lemmas.Bool.{and_from, and_left, lt-ltb, le-leb, false_from_ne_true}
use Rattle.std.proofs.lemmas.List.{length-take-le}
use Rattle.std.proofs.lemmas.Str.Parse.{IsNumeralModel, numerals_by_value, tells_all_ascii_digits, digits_value_short, digit_at}
use Rattle.fix_base.proofs.Digits.{numerals}
use Rattle.fix_groups.specs.Tagged.{count_in}

-- digits, as they are tried one by one
pub ascii : IsNumeralModel (λ ds. all_ascii_digits ds ≡ true) (digits_value 10)
ascii = numerals_by_value (λ ds. all_ascii_digits ds ≡ true) tells_all_ascii_digits

pub count_is : (v : List ℕ) → 0 < length v → length v ≤ 9 → AllDigits 10 v → count_in v ≡ Some (digits_value 10 v)
count_is v some few digits =
    ap (λ b. if b then Some (digits_value 10 v) else None) (and_from (all_ascii_digits v) (nat_lt 0 (length v) && nat_le (length v) 9) (ascii.from v digits) (and_from (nat_lt 0 (length v)) (nat_le (length v) 9) (lt-ltb 0 (length v) some) (le-leb (length v) 9 few)))

pub no_count : (v : List ℕ) (k : ℕ) → k < length v → (48 ≤ get_or v k 0 → get_or v k 0 ≤ 57 → ⊥) → count_in v ≡ None
no_count v k lt never =
    ap (λ b. if b then Some (digits_value 10 v) else None) (and_left (all_ascii_digits v) (nat_lt 0 (length v) && nat_le (length v) 9) (false_from_ne_true (all_ascii_digits v) (λ e. let d = digit_at v k (ascii.to v e) lt in never d.0 d.1)))

pub count_small : (v : List ℕ) (i n : ℕ) → i ≤ length v → length v ≤ 9 → AllDigits 10 (take i v) → n ≡ digits_value 10 (take i v) → n < 10 ^ 9
count_small v i n le few digits is = omega (arith, is, digits_value_short numerals (take i v) 9 digits (omega (arith, length-take-le i v le)))
