-- The time of the sample has one text.
use Rattle.std.proofs.Common.{◌≡◌, ℕ, ◌+◌, ◌-◌, ◌*◌, ◌^◌, ◌<◌, ◌≤◌, codes, List, [], ◌∷◌, length, refl, ap, subst, ◌∙◌, inl, inr, arith, lit<, lit≤, ℤ, pos, ◌+ℤ◌, ◌*ℤ◌}
use Rattle.std.specs.Prelude.{unsigned_abs}
use Rattle.std.specs.Str.Parse.{digits_value, AllDigits}
use Rattle.std.proofs.lemmas.Bool.{cases_lt}
use Rattle.std.proofs.lemmas.Str.{digit_value_digit}
use Rattle.std.proofs.lemmas.Str.Parse.{digits_value_short, digit_at}
use Rattle.jiff_core.specs.Calendar.{IsCivilDate, day_count, days_from_civil, days_of_years, days_of_months}
use Rattle.jiff_core.proofs.SignedLemmas.{signed_arith}
use Rattle.jiff_core.proofs.CalendarLemmas.{days_from_civil-day_count, day_count-year_is, day_count-lt_month, day_count-day}
use Rattle.fix_base.specs.Times.{Moment, IsMoment, moment_text, time_of, micros_of, second_of_day, IsTimeTextOf}
use Rattle.fix_base.proofs.Digits.{numerals}
use Rattle.fix_top.specs.Sample.{SAMPLE_TIME}

-- a day, a second of it and the microseconds of that
day_parts : (d : ℤ) (s f : ℕ) → s < 86400 → f < 1000000 → (d *ℤ pos 86400 +ℤ pos s) *ℤ pos 1000000 +ℤ pos f ≡ pos 1704189600000000 → (d ≡ pos 19724) × (s ≡ 36000) × (f ≡ 0)
day_parts d s f below under e = omega (arith, signed_arith)

new_year : day_count (pos 2024) 1 1 ≡ 4391676
unfolding day_count days_of_years days_of_months
new_year = refl

second_of_january : day_count (pos 2024) 1 2 ≡ 4391677
unfolding day_count days_of_years days_of_months
second_of_january = refl

-- 19724 days after 1970 it is 2024-01-02
day_is : (y m d : ℕ) → IsCivilDate (pos y) m d → days_from_civil (pos y) m d ≡ pos 19724 → (y ≡ 2024) × (m ≡ 1) × (d ≡ 2)
day_is y m d civil e =
    let count : day_count (pos y) m d ≡ 4391677 = omega (arith, signed_arith, days_from_civil-day_count (pos y) m d, e) in
    let year : pos y ≡ pos 2024 = day_count-year_is (pos 2024) (pos y) m d (omega arith, omega arith) civil (omega (arith, new_year, count)) (omega (arith, new_year, count)) in
    let here : day_count (pos 2024) m d ≡ 4391677 = subst (λ (z : ℤ). day_count z m d ≡ 4391677) year count in
    let first : m ≡ 1 = month_is m d civil.1.0 civil.2.0 here in
    let january : day_count (pos 2024) 1 d ≡ 4391677 = subst (λ k. day_count (pos 2024) k d ≡ 4391677) first here in
    (ap unsigned_abs year, first, omega (arith, january, second_of_january, day_count-day (pos 2024) 1 d 2 civil.2.0 (lit≤ tt)))
  where
    month_is : (m d : ℕ) → 1 ≤ m → 1 ≤ d → day_count (pos 2024) m d ≡ 4391677 → m ≡ 1
    month_is m d low first e = elim (cases_lt 1 m) [
      | inl later ↦ absurd (omega (arith, e, second_of_january, day_count-lt_month (pos 2024) 1 2 m d ((omega arith, omega arith), (lit≤ tt, lit≤ tt), (lit≤ tt, lit≤ tt)) first later))
      | inr here ↦ omega arith
    ]

-- 36000 seconds after midnight it is ten o'clock
clock_is : (h m s : ℕ) → h < 24 → m < 60 → s < 60 → h * 3600 + m * 60 + s ≡ 36000 → (h ≡ 10) × (m ≡ 0) × (s ≡ 0)
clock_is h m s a b c e = omega arith

-- three digits of 0
zeros : (f : List ℕ) → AllDigits 10 f → length f ≡ 3 → digits_value 10 f ≡ 0 → f ≡ codes "000"
zeros [] all long e = absurd (omega arith)
zeros (a ∷ []) all long e = absurd (omega arith)
zeros (a ∷ b ∷ []) all long e = absurd (omega arith)
zeros (a ∷ b ∷ c ∷ []) all long e =
    let p = digit_at (a ∷ b ∷ c ∷ []) 0 all (lit< tt) in
    let q = digit_at (a ∷ b ∷ c ∷ []) 1 all (lit< tt) in
    let r = digit_at (a ∷ b ∷ c ∷ []) 2 all (lit< tt) in
    let x : a ≡ 48 = omega (arith, e, digit_value_digit a p, digit_value_digit b q, digit_value_digit c r) in
    let y : b ≡ 48 = omega (arith, e, digit_value_digit a p, digit_value_digit b q, digit_value_digit c r) in
    let z : c ≡ 48 = omega (arith, e, digit_value_digit a p, digit_value_digit b q, digit_value_digit c r) in
    λ i. x i ∷ y i ∷ z i ∷ []
zeros (a ∷ b ∷ c ∷ d ∷ f) all long e = absurd (omega arith)

fraction_small : (f : List ℕ) → AllDigits 10 f → length f ≡ 3 → micros_of f ≡ digits_value 10 f * 1000
fraction_small f all long = ap (λ n. digits_value 10 f * 10 ^ (6 - n)) long

moment_is : (m : Moment) → IsMoment m → m.second < 60 → length m.fraction ≡ 3 → time_of m ≡ pos SAMPLE_TIME → moment_text m ≡ codes "20240102-10:00:00.000"
moment_is m is no_leap many says =
    let micros = fraction_small m.fraction is.digits many in
    let short : digits_value 10 m.fraction < 10 ^ 3 = digits_value_short numerals m.fraction 3 is.digits (omega (arith, many)) in
    let hour = is.hour in
    let minute = is.minute in
    let parts = day_parts (days_from_civil (pos m.year) m.month m.day) (second_of_day m) (micros_of m.fraction) (omega arith) (omega (arith, micros, short)) says in
    let date = day_is m.year m.month m.day is.date parts.0 in
    let clock = clock_is m.hour m.minute m.second is.hour is.minute no_leap parts.1 in
    let fraction = zeros m.fraction is.digits many (omega (arith, micros, parts.2)) in
    ap moment_text (λ i. record { year = date.0 i; month = date.1 i; day = date.2 i; hour = clock.0 i; minute = clock.1 i; second = clock.2 i; fraction = fraction i })

-- at the sample's time this is written
pub time_text : (text : List ℕ) → IsTimeTextOf 3 SAMPLE_TIME text → text ≡ codes "20240102-10:00:00.000"
time_text text h = h.spelled ∙ moment_is h.moment h.is h.no_leap h.many h.says
