-- The digits of a BodyLength.
use Rattle.std.proofs.Common.{◌≡◌, ◌≢◌, ℕ, zero, suc, replicate, ◌+◌, ◌-◌, ◌*◌, ◌^◌, ◌<◌, ◌≤◌, true, false, nat_lt, nat_le, ◌&&◌, List, [], ◌∷◌, ◌++◌, length, get_or, take, refl, sym, ap, subst, ◌∙◌, arith, inl, inr, lit<, below_more}
use Rattle.std.specs.Str.Parse.{digits_value, AllDigits}
use Rattle.std.proofs.lemmas.Bool.{cases_lt, cases_eq, and_from, and_left, lt-ltb, le-leb, false_from_ne_true}
use Rattle.std.proofs.lemmas.List.{append-nil, length-append, length-take-le, take_all, get_or_append_left, get_or-take, nil_from_length, length-replicate}
use Rattle.std.proofs.lemmas.Int.Digits.{digits_push, digits_more, digits_value_push, digits_value_more}
use Rattle.std.proofs.lemmas.Str.{digit_value_digit}
use Rattle.std.proofs.lemmas.Str.Parse.{IsNumeralModel, numerals_by_value, tells_digits, tells_all_ascii_digits, digits_value_short, digit_at}
use Rattle.std.specs.Str.{all_ascii_digits}
use Rattle.fix_base.specs.declared.no_match.NoMatch.TheVariants.{Never}
use Rattle.fix_base.specs.Fields.{is_data_length}
use Rattle.fix_base.specs.Front.{Begins, NeverBegins, IsPartOf, SomeOf}
use Rattle.fix_base.specs.Frame.{HasNoSoh, IsLine, IsLengthOf, IsSumOf}
use Rattle.fix_base.proofs.Fronts.{stops_same}
use Rattle.fix_base.proofs.Pieces.{from, line_begins, line_wrong, line_wrong_at, line_partial}

pub numerals : IsNumeralModel (AllDigits 10) (digits_value 10)
numerals = numerals_by_value (AllDigits 10) tells_digits

-- the first i bytes are digits of n, and a seventh one made a BodyLength
pub record HasDigits (i : ℕ) (bytes : List ℕ) (n : ℕ) : Type 0 where
  pub few : i ≤ 7
  pub digits : AllDigits 10 (take i bytes)
  pub number : digits_value 10 (take i bytes) ≡ n
  pub low : i ≡ 7 → 5 ≤ n
  pub high : i ≡ 7 → n ≤ 1048576

-- digits are no SOH
pub digits_no_soh : (ds : List ℕ) → AllDigits 10 ds → HasNoSoh ds
digits_no_soh ds all k lt e = let h = digit_at ds k all lt in omega (arith, h.0, h.1)

pub digits_small : (i : ℕ) (bytes : List ℕ) (n : ℕ) → i ≤ length bytes → HasDigits i bytes n → n < 10 ^ 7
digits_small i bytes n le h = omega (arith, h.number, digits_value_short numerals (take i bytes) 7 h.digits (omega (arith, h.few, length-take-le i bytes le)))

pub clear : (i : ℕ) (bytes : List ℕ) (n : ℕ) → i ≤ length bytes → HasDigits i bytes n → (k : ℕ) → k < i → get_or bytes k 0 ≢ 1
clear i bytes n le h k lt =
    let inside : k < length (take i bytes) = omega (arith, length-take-le i bytes le) in
    rw (← get_or-take i bytes k 0 lt) (digits_no_soh (take i bytes) h.digits k inside)

abbrev IsAnyLength : List ℕ → Type 0
IsAnyLength = SomeOf IsLengthOf

-- the value stands inside of the line
line_any : (bytes : List ℕ) → NeverBegins (IsLine IsAnyLength) bytes → NeverBegins (SomeOf (λ n. IsLine (IsLengthOf n))) bytes
line_any bytes h = stops_same (IsLine IsAnyLength) (SomeOf (λ n. IsLine (IsLengthOf n))) bytes Never
    (λ t p. (p.is.0, record { value = p.value; no_soh = p.no_soh; is = p.is.1; spelled = p.spelled }))
    (λ t p. record { value = p.1.value; no_soh = p.1.no_soh; is = (p.0, p.1.is); spelled = p.1.spelled }) h

pub length_begins : (bytes : List ℕ) (i n : ℕ) → i < length bytes → HasDigits i bytes n → get_or bytes i 0 ≡ 1 → 5 ≤ n → n ≤ 1048576 → Begins (IsLine (IsLengthOf n)) bytes (from (i + 1) bytes)
length_begins bytes i n lt h soh low high =
    let len = length-take-le i bytes (omega arith) in
    let is : IsLengthOf n (take i bytes) = record {
      digits = h.digits;
      few = omega (arith, len, h.few);
      some = elim (cases_lt 0 (length (take i bytes))) [ inl pos ↦ pos | inr none ↦ absurd (omega (arith, h.number, digits_value_short numerals (take i bytes) 0 h.digits none)) ];
      number = h.number;
      low = low;
      high = high;
    } in
    line_begins (IsLengthOf n) bytes i lt (clear i bytes n (omega arith) h) soh is

pub length_wrong_at : (bytes : List ℕ) (i n : ℕ) → i < length bytes → HasDigits i bytes n → get_or bytes i 0 ≡ 1 → (5 ≤ n → n ≤ 1048576 → ⊥) → NeverBegins (SomeOf (λ m. IsLine (IsLengthOf m))) bytes
length_wrong_at bytes i n lt h soh never = line_any bytes (line_wrong_at IsAnyLength bytes i lt (clear i bytes n (omega arith) h) soh (λ p. never (omega (arith, p.1.low, p.1.number, h.number)) (omega (arith, p.1.high, p.1.number, h.number))))

-- the byte at i is neither an SOH nor a digit that may follow
pub length_wrong : (bytes : List ℕ) (i n : ℕ) → i < length bytes → HasDigits i bytes n → get_or bytes i 0 ≢ 1 → ((w : List ℕ) → IsAnyLength (take (i + 1) bytes ++ w) → ⊥) → NeverBegins (SomeOf (λ m. IsLine (IsLengthOf m))) bytes
length_wrong bytes i n lt h soh never = line_any bytes (line_wrong IsAnyLength bytes (i + 1) (omega arith) (below_more _ _ (clear i bytes n (omega arith) h) soh) never)

-- too many bytes
pub too_long : (bytes w : List ℕ) (i : ℕ) → i < length bytes → i ≡ 7 → IsAnyLength (take (i + 1) bytes ++ w) → ⊥
too_long bytes w i lt seven p = omega (arith, p.1.few, length-append (take (i + 1) bytes) w, length-take-le (i + 1) bytes (omega arith))

-- no digit
pub no_digit : (bytes w : List ℕ) (i : ℕ) → i < length bytes → (48 ≤ get_or bytes i 0 → get_or bytes i 0 ≤ 57 → ⊥) → IsAnyLength (take (i + 1) bytes ++ w) → ⊥
no_digit bytes w i lt never p =
    let len = length-take-le (i + 1) bytes (omega arith) in
    let inside : i < length (take (i + 1) bytes) = omega (arith, len) in
    let at : get_or (take (i + 1) bytes ++ w) i 0 ≡ get_or bytes i 0 = get_or_append_left (take (i + 1) bytes) w 0 i inside ∙ get_or-take (i + 1) bytes i 0 (omega arith) in
    let d = digit_at (take (i + 1) bytes ++ w) i p.1.digits (omega (arith, length-append (take (i + 1) bytes) w, len)) in
    never (omega (arith, at, d.0)) (omega (arith, at, d.1))

-- the seventh digit makes no BodyLength
pub no_length : (bytes w : List ℕ) (i n : ℕ) → i < length bytes → i ≡ 6 → digits_value 10 (take (i + 1) bytes) ≡ n → (5 ≤ n → n ≤ 1048576 → ⊥) → IsAnyLength (take (i + 1) bytes ++ w) → ⊥
no_length bytes w i n lt six number never p =
    let len = length-take-le (i + 1) bytes (omega arith) in
    let none : w ≡ [] = nil_from_length w (omega (arith, p.1.few, len, length-append (take (i + 1) bytes) w)) in
    let same : digits_value 10 (take (i + 1) bytes) ≡ p.0 = ap (digits_value 10) (sym (append-nil (take (i + 1) bytes)) ∙ ap (λ (t : List ℕ). take (i + 1) bytes ++ t) (sym none)) ∙ p.1.number in
    never (omega (arith, p.1.low, same, number)) (omega (arith, p.1.high, same, number))

-- one more digit
pub value_more : (bytes : List ℕ) (i n d : ℕ) → i < length bytes → digits_value 10 (take i bytes) ≡ n → 48 ≤ get_or bytes i 0 → get_or bytes i 0 ≤ 57 → d + 48 ≡ get_or bytes i 0 → digits_value 10 (take (i + 1) bytes) ≡ n * 10 + d
value_more bytes i n d lt number low high is =
    let e = digit_value_digit (get_or bytes i 0) (low, high) in
    digits_value_more 10 bytes i lt ∙ omega (arith, e, is, number)

pub digits_more_here : (bytes : List ℕ) (i n d : ℕ) → i < length bytes → i < 7 → HasDigits i bytes n → 48 ≤ get_or bytes i 0 → get_or bytes i 0 ≤ 57 → d + 48 ≡ get_or bytes i 0 → (i ≡ 6 → (5 ≤ n * 10 + d) × (n * 10 + d ≤ 1048576)) → HasDigits (i + 1) bytes (n * 10 + d)
digits_more_here bytes i n d lt room h low high is seventh = record {
  few = omega arith;
  digits = digits_more 10 bytes i lt h.digits (omega (arith, digit_value_digit (get_or bytes i 0) (low, high)));
  number = value_more bytes i n d lt h.number low high is;
  low = λ e. (seventh (omega arith)).0;
  high = λ e. (seventh (omega arith)).1;
}

-- digits that fit go on as a BodyLength
pub length_partial : (bytes : List ℕ) (n : ℕ) → HasDigits (length bytes) bytes n → IsPartOf (SomeOf (λ m. IsLine (IsLengthOf m))) bytes
length_partial bytes n h =
    let all : take (length bytes) bytes ≡ bytes = take_all (length bytes) bytes (omega arith) in
    let digits : AllDigits 10 bytes = subst (AllDigits 10) all h.digits in
    let number : digits_value 10 bytes ≡ n = ap (digits_value 10) (sym all) ∙ h.number in
    elim (cases_lt n 5) [
      | inl low ↦
          let more : AllDigits 10 (bytes ++ 53 ∷ []) = digits_push 10 bytes 53 digits (lit< tt) in
          let value = digits_value_push 10 bytes 53 in
          let is : IsLengthOf (n * 10 + 5) (bytes ++ 53 ∷ []) = record {
            digits = more;
            few = elim (cases_lt (length bytes) 7) [ inl room ↦ omega (arith, length-append bytes (53 ∷ [])) | inr full ↦ absurd (omega (arith, h.few, h.low (omega (arith, h.few)))) ];
            some = omega (arith, length-append bytes (53 ∷ []));
            number = omega (arith, value, number);
            low = omega arith;
            high = omega arith;
          } in
          let p = line_partial (IsLengthOf (n * 10 + 5)) bytes (53 ∷ []) (digits_no_soh _ more) is in
          record { missing = p.missing; nonempty = p.nonempty; is = (n * 10 + 5, p.is) }
      | inr enough ↦
          let is : IsLengthOf n (bytes ++ []) = rw append-nil (record {
            digits = digits;
            few = h.few;
            some = elim (cases_lt 0 (length bytes)) [ inl pos ↦ pos | inr none ↦ absurd (omega (arith, number, digits_value_short numerals bytes 0 digits none)) ];
            number = number;
            low = enough;
            high = elim (cases_lt (length bytes) 7) [ inl room ↦ omega (arith, number, digits_value_short numerals bytes 6 digits (omega arith)) | inr full ↦ h.high (omega (arith, h.few)) ];
          }) in
          let p = line_partial (IsLengthOf n) bytes [] (digits_no_soh _ is.digits) is in
          record { missing = p.missing; nonempty = p.nonempty; is = (n, p.is) }
    ]

-- ---- the sum

-- the first i bytes are digits of n
pub record HasSum (i : ℕ) (bytes : List ℕ) (n : ℕ) : Type 0 where
  pub inside : i ≤ length bytes
  pub few : i ≤ 3
  pub digits : AllDigits 10 (take i bytes)
  pub number : digits_value 10 (take i bytes) ≡ n

pub sum_small : (i : ℕ) (bytes : List ℕ) (n : ℕ) → HasSum i bytes n → n < 10 ^ 3
sum_small i bytes n h = omega (arith, h.number, digits_value_short numerals (take i bytes) 3 h.digits (omega (arith, h.few, length-take-le i bytes h.inside)))

sum_clear : (i : ℕ) (bytes : List ℕ) (n : ℕ) → HasSum i bytes n → (k : ℕ) → k < i → get_or bytes k 0 ≢ 1
sum_clear i bytes n h k lt =
    let inside : k < length (take i bytes) = omega (arith, length-take-le i bytes h.inside) in
    rw (← get_or-take i bytes k 0 lt) (digits_no_soh (take i bytes) h.digits k inside)

sum_any : (bytes : List ℕ) → NeverBegins (IsLine (SomeOf IsSumOf)) bytes → NeverBegins (SomeOf (λ n. IsLine (IsSumOf n))) bytes
sum_any bytes h = stops_same (IsLine (SomeOf IsSumOf)) (SomeOf (λ n. IsLine (IsSumOf n))) bytes Never
    (λ t p. (p.is.0, record { value = p.value; no_soh = p.no_soh; is = p.is.1; spelled = p.spelled }))
    (λ t p. record { value = p.1.value; no_soh = p.1.no_soh; is = (p.0, p.1.is); spelled = p.1.spelled }) h

pub sum_more : (bytes : List ℕ) (i n d : ℕ) → i < length bytes → i < 3 → HasSum i bytes n → 48 ≤ get_or bytes i 0 → get_or bytes i 0 ≤ 57 → d + 48 ≡ get_or bytes i 0 → HasSum (i + 1) bytes (n * 10 + d)
sum_more bytes i n d lt room h low high is = record {
  inside = omega arith;
  few = omega arith;
  digits = digits_more 10 bytes i lt h.digits (omega (arith, digit_value_digit (get_or bytes i 0) (low, high)));
  number = value_more bytes i n d lt h.number low high is;
}

-- the byte at i is no digit
pub sum_no_digit : (bytes : List ℕ) (i n : ℕ) → i < length bytes → i < 3 → HasSum i bytes n → (48 ≤ get_or bytes i 0 → get_or bytes i 0 ≤ 57 → ⊥) → NeverBegins (SomeOf (λ m. IsLine (IsSumOf m))) bytes
sum_no_digit bytes i n lt room h never =
    let len = length-take-le i bytes h.inside in
    elim (cases_eq (get_or bytes i 0) 1) [
      | inl soh ↦ sum_any bytes (line_wrong_at (SomeOf IsSumOf) bytes i lt (sum_clear i bytes n h) soh (λ p. omega (arith, p.1.three, len)))
      | inr other ↦ sum_any bytes (line_wrong (SomeOf IsSumOf) bytes (i + 1) (omega arith) (below_more _ _ (sum_clear i bytes n h) other) (λ w p.
          let long = length-take-le (i + 1) bytes (omega arith) in
          let inside : i < length (take (i + 1) bytes) = omega (arith, long) in
          let at : get_or (take (i + 1) bytes ++ w) i 0 ≡ get_or bytes i 0 = get_or_append_left (take (i + 1) bytes) w 0 i inside ∙ get_or-take (i + 1) bytes i 0 (omega arith) in
          let d = digit_at (take (i + 1) bytes ++ w) i p.1.digits (omega (arith, length-append (take (i + 1) bytes) w, long)) in
          never (omega (arith, at, d.0)) (omega (arith, at, d.1))))
    ]

-- three digits, and no SOH behind them
pub sum_no_soh : (bytes : List ℕ) (n : ℕ) → 3 < length bytes → HasSum 3 bytes n → get_or bytes 3 0 ≢ 1 → NeverBegins (SomeOf (λ m. IsLine (IsSumOf m))) bytes
sum_no_soh bytes n lt h other = sum_any bytes (line_wrong (SomeOf IsSumOf) bytes (3 + 1) (omega arith) (below_more _ _ (sum_clear 3 bytes n h) other) (λ w p.
    omega (arith, p.1.three, length-append (take 4 bytes) w, length-take-le 4 bytes (omega arith))))

pub sum_begins : (bytes : List ℕ) (n : ℕ) → 3 < length bytes → HasSum 3 bytes n → get_or bytes 3 0 ≡ 1 → Begins (IsLine (IsSumOf n)) bytes (from 4 bytes)
sum_begins bytes n lt h soh = line_begins (IsSumOf n) bytes 3 lt (sum_clear 3 bytes n h) soh (record { digits = h.digits; three = length-take-le 3 bytes h.inside; number = h.number })

zeros : (n : ℕ) → AllDigits 10 (replicate n 48)
zeros zero = tt
zeros (suc n) = (lit< tt, zeros n)

pub digits-append : (a b : List ℕ) → AllDigits 10 a → AllDigits 10 b → AllDigits 10 (a ++ b)
digits-append [] b p q = q
digits-append (x ∷ a) b p q = (p.0, digits-append a b p.1 q)

pub sum_partial : (bytes : List ℕ) (n : ℕ) → length bytes ≤ 3 → HasSum (length bytes) bytes n → IsPartOf (SomeOf (λ m. IsLine (IsSumOf m))) bytes
sum_partial bytes n short h =
    let w : List ℕ = replicate (3 - length bytes) 48 in
    let digits : AllDigits 10 (bytes ++ w) = digits-append bytes w (subst (AllDigits 10) (take_all (length bytes) bytes (omega arith)) h.digits) (zeros (3 - length bytes)) in
    let is : IsSumOf (digits_value 10 (bytes ++ w)) (bytes ++ w) = record { digits = digits; three = omega (arith, length-append bytes w, length-replicate {A = ℕ} (3 - length bytes) 48); number = refl } in
    let p = line_partial (IsSumOf (digits_value 10 (bytes ++ w))) bytes w (digits_no_soh _ digits) is in
    record { missing = p.missing; nonempty = p.nonempty; is = (digits_value 10 (bytes ++ w), p.is) }

-- ---- the length of data

ascii : IsNumeralModel (λ ds. all_ascii_digits ds ≡ true) (digits_value 10)
ascii = numerals_by_value (λ ds. all_ascii_digits ds ≡ true) tells_all_ascii_digits

pub data_length_is : (value : List ℕ) → 0 < length value → length value ≤ 7 → AllDigits 10 value → is_data_length value ≡ true
data_length_is value some few digits =
    and_from (all_ascii_digits value) (nat_lt 0 (length value) && nat_le (length value) 7) (ascii.from value digits) (and_from (nat_lt 0 (length value)) (nat_le (length value) 7) (lt-ltb 0 (length value) some) (le-leb (length value) 7 few))

pub no_data_length : (value : List ℕ) (k : ℕ) → k < length value → (48 ≤ get_or value k 0 → get_or value k 0 ≤ 57 → ⊥) → is_data_length value ≡ false
no_data_length value k lt never =
    and_left (all_ascii_digits value) (nat_lt 0 (length value) && nat_le (length value) 7) (false_from_ne_true (all_ascii_digits value) (λ e. let d = digit_at value k (ascii.to value e) lt in never d.0 d.1))

pub length_small : (value : List ℕ) (i n : ℕ) → i ≤ length value → length value ≤ 7 → AllDigits 10 (take i value) → n ≡ digits_value 10 (take i value) → n < 10 ^ 7
length_small value i n le few digits is = omega (arith, is, digits_value_short numerals (take i value) 7 digits (omega (arith, length-take-le i value le)))
