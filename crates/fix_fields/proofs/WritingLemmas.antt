-- The text of a time.
use Rattle.std.proofs.Common.{◌≡◌, ℕ, ◌+◌, ◌*◌, ◌/◌, ◌%◌, ◌<◌, List, [], ◌∷◌, ◌++◌, length, take, refl, sym, ap, subst, ◌∙◌, arith, pos, ◌+ℤ◌, ◌*ℤ◌, ◌≤ℤ◌, inl, inr}
use Rattle.std.specs.Char.{digit_value}
use Rattle.std.specs.Str.Parse.{AllDigits}
use Rattle.std.proofs.lemmas.Bool.{cases_lt}
use Rattle.std.proofs.lemmas.Int.{ints}
use Rattle.std.proofs.lemmas.Str.{digit_value_digit}
use borrow.Author.Differences.{up, down}
use Rattle.jiff_core.specs.declared.civil.date.Date.{Date}
use Rattle.jiff_core.specs.Calendar.{IsCivilDate, days_from_civil, day_count}
use Rattle.jiff_core.specs.Date.{epoch_day}
use Rattle.jiff_core.proofs.SignedLemmas.{signed_arith}
use Rattle.jiff_core.proofs.CalendarLemmas.{day_count-lt_year, day_count-epoch, days_from_civil-day_count}
use Rattle.jiff_core.proofs.DateLemmas.{civil}
use Rattle.fix_base.specs.Times.{two_digits, four_digits, Moment, moment_text, micros_of, cut_to, IsTimeTextOf}

-- a day from 1970 on lies in no year before it
pub year_from_1970 : (d : Date) (n : ℕ) → epoch_day d ≡ pos n → pos 1970 ≤ℤ d.year
year_from_1970 d n e =
    let before : up d.year < down d.year + 1970 → day_count d.year d.month d.day < day_count (pos 1970) 1 1 = λ h. day_count-lt_year d.year d.month d.day (pos 1970) 1 1 (civil d) (omega arith) (omega (arith, signed_arith, h)) in
    let count = days_from_civil-day_count d.year d.month d.day in
    elim (cases_lt (up d.year) (down d.year + 1970)) [ inl less ↦ absurd (omega (arith, signed_arith, before less, count, day_count-epoch, e)) | inr not ↦ omega (arith, signed_arith, not) ]

-- a digit's value
digit_value_of : (n : ℕ) → n < 10 → digit_value (48 + n) ≡ n
digit_value_of n h = omega (arith, digit_value_digit (48 + n) (omega arith, omega arith))

-- the text in full
abbrev pub full_text : (year month day second micros : ℕ) → List ℕ
full_text year month day second micros =
    four_digits year ++ two_digits month ++ two_digits day ++ 45 ∷ [] ++ two_digits (second / 3600) ++ 58 ∷ [] ++ two_digits (second / 60 % 60) ++ 58 ∷ [] ++ two_digits (second % 60) ++ 46 ∷ [] ++ two_digits (micros / 10000) ++ four_digits (micros % 10000)

-- the day and the time of day of a time
pub record IsSplit (time year month day second micros : ℕ) : Type 0 where
  pub date : IsCivilDate (pos year) month day
  pub number : days_from_civil (pos year) month day ≡ pos (time / 86400000000)
  pub of_day : second ≡ time % 86400000000 / 1000000
  pub of_second : micros ≡ time % 86400000000 % 1000000

abbrev moment_with : (year month day second : ℕ) → List ℕ → Moment
moment_with year month day second fraction = record { year = year; month = month; day = day; hour = second / 3600; minute = second / 60 % 60; second = second % 60; fraction = fraction }

-- the text with these digits behind the point
text_with : (digits time year month day second micros : ℕ) (fraction : List ℕ) → IsSplit time year month day second micros → AllDigits 10 fraction → length fraction ≡ digits
    → time / 86400000000 * 86400000000 + second * 1000000 + micros_of fraction ≡ cut_to digits time → IsTimeTextOf digits time (moment_text (moment_with year month day second fraction))
text_with digits time year month day second micros fraction h all many sum = record {
  moment = moment_with year month day second fraction;
  is = record { date = h.date; hour = omega (arith, h.of_day); minute = omega arith; second = omega arith; digits = all };
  no_leap = omega arith;
  many = many;
  spelled = refl;
  says = ap (λ z. (z *ℤ pos 86400 +ℤ pos (second / 3600 * 3600 + second / 60 % 60 * 60 + second % 60)) *ℤ pos 1000000 +ℤ pos (micros_of fraction)) h.number ∙ omega (arith, ints, sum);
}

pub seconds_text : (time year month day second micros : ℕ) → IsSplit time year month day second micros → IsTimeTextOf 0 time (take 17 (full_text year month day second micros))
seconds_text time year month day second micros h = text_with 0 time year month day second micros [] h tt refl (omega (arith, h.of_day))

pub millis_text : (time year month day second micros : ℕ) → IsSplit time year month day second micros → IsTimeTextOf 3 time (take 21 (full_text year month day second micros))
millis_text time year month day second micros h =
    let below : micros < 1000000 = omega (arith, h.of_second) in
    let a = digit_value_of (micros / 10000 / 10) (omega arith) in
    let b = digit_value_of (micros / 10000 % 10) (omega arith) in
    let c = digit_value_of (micros % 10000 / 100 / 10) (omega arith) in
    text_with 3 time year month day second micros ((48 + micros / 10000 / 10) ∷ (48 + micros / 10000 % 10) ∷ (48 + micros % 10000 / 100 / 10) ∷ []) h
    (omega (arith, a), (omega (arith, b), (omega (arith, c), tt))) refl (omega (arith, h.of_day, h.of_second, a, b, c))

pub micros_text : (time year month day second micros : ℕ) → IsSplit time year month day second micros → IsTimeTextOf 6 time (take 24 (full_text year month day second micros))
micros_text time year month day second micros h =
    let below : micros < 1000000 = omega (arith, h.of_second) in
    let a = digit_value_of (micros / 10000 / 10) (omega arith) in
    let b = digit_value_of (micros / 10000 % 10) (omega arith) in
    let c = digit_value_of (micros % 10000 / 100 / 10) (omega arith) in
    let d = digit_value_of (micros % 10000 / 100 % 10) (omega arith) in
    let e = digit_value_of (micros % 10000 % 100 / 10) (omega arith) in
    let f = digit_value_of (micros % 10000 % 100 % 10) (omega arith) in
    text_with 6 time year month day second micros ((48 + micros / 10000 / 10) ∷ (48 + micros / 10000 % 10) ∷ (48 + micros % 10000 / 100 / 10) ∷ (48 + micros % 10000 / 100 % 10) ∷ (48 + micros % 10000 % 100 / 10) ∷ (48 + micros % 10000 % 100 % 10) ∷ []) h
    (omega (arith, a), (omega (arith, b), (omega (arith, c), (omega (arith, d), (omega (arith, e), (omega (arith, f), tt)))))) refl (omega (arith, h.of_day, h.of_second, a, b, c, d, e, f))

-- the parts of a time whose day is this date
pub split_of : (d : Date) (time year month day second micros : ℕ) → epoch_day d ≡ pos (time / 86400000000) → pos year ≡ d.year → month ≡ d.month → day ≡ d.day
    → second ≡ time % 86400000000 / 1000000 → micros ≡ time % 86400000000 % 1000000 → IsSplit time year month day second micros
split_of d time year month day second micros e y m k s u = record {
  date = subst (λ z. IsCivilDate z month day) (sym y) (subst (λ n. IsCivilDate d.year n day) (sym m) (subst (λ n. IsCivilDate d.year d.month n) (sym k) (civil d)));
  number = ap (λ z. days_from_civil z month day) y ∙ ap (λ n. days_from_civil d.year n day) m ∙ ap (days_from_civil d.year d.month) k ∙ e;
  of_day = s;
  of_second = u;
}
