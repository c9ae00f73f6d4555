-- Each time up to the end of 2099 has a text.
use Rattle.std.proofs.Common.{◌≡◌, ℕ, zero, suc, ◌+◌, ◌-◌, ◌*◌, ◌/◌, ◌%◌, ◌<◌, ◌≤◌, List, refl, ap, ◌∙◌, arith, inl}
use Rattle.std.proofs.Common.{inr, ℤ, pos}
use Rattle.std.proofs.lemmas.Bool.{cases_lt}
use Rattle.jiff_core.specs.Calendar.{IsCivilDate, days_in_month, days_in_year, days_from_civil, day_count}
use Rattle.jiff_core.proofs.SignedLemmas.{signed_arith}
use Rattle.jiff_core.proofs.CalendarLemmas.{day_count-epoch, days_from_civil-day_count, days_in_year_bounds}
use Rattle.jiff_core.proofs.CalendarLemmas.{day_count-next_year, day_count-last_of_year, day_count-day}
use Rattle.jiff_core.proofs.CalendarLemmas.{day_count-next_month}
use Rattle.fix_base.specs.Payload.{LAST_TIME}
use Rattle.fix_base.specs.Times.{IsTimeTextOf}
use Rattle.fix_fields.proofs.WritingLemmas.{IsSplit, millis_text}

-- the days before year 1970 + k, and before month j + 1 of a year
abbrev to_year : ℕ → ℕ
to_year k = day_count (pos (1970 + k)) 1 1

abbrev to_month : ℤ → ℕ → ℕ
to_month y j = day_count y (j + 1) 1

next_year : (k : ℕ) → to_year (suc k) ≡ to_year k + days_in_year (pos (1970 + k))
next_year k = day_count-next_year (pos (1970 + k)) (pos (1970 + suc k)) (omega (arith, signed_arith))
    (omega (arith, signed_arith))

years_long : (k : ℕ) → 365 * k + 4371953 ≤ to_year k
years_long zero = omega (arith, day_count-epoch)
years_long (suc k) = omega (arith, years_long k, next_year k, days_in_year_bounds (pos (1970 + k)))

next_month : (y : ℤ) (j : ℕ) → to_month y (suc j) ≡ to_month y j + days_in_month y (j + 1)
next_month y j = let same : suc j + 1 ≡ j + 1 + 1 = omega arith in ap (λ m. day_count y m 1) same ∙
    day_count-next_month y (j + 1) (omega arith)

-- the year behind the months
all_months : (y : ℤ) → to_month y 12 ≡ day_count y 1 1 + days_in_year y
all_months y = omega (
  arith,
  day_count-next_month y 12 (omega arith),
  day_count-last_of_year y,
  day_count-day y 12 1 31 (omega arith) (omega arith),
)

-- the last of some steps that is not beyond
record Last (steps : ℕ → ℕ) (count most : ℕ) : Type 0 where
  at : ℕ
  below : at < most
  from : steps at ≤ count
  before : count < steps (suc at)

last : (steps : ℕ → ℕ) (count most : ℕ) → steps 0 ≤ count → count < steps most → Last steps count most
last steps count zero low high = absurd (omega arith)
last steps count (suc most) low high =
    elim (cases_lt count (steps most)) [
      | inl less ↦ (let l = last steps count most low less in
          record { at = l.at; below = omega (arith, l.below); from = l.from; before = l.before })
      | inr reached ↦ record { at = most; below = omega arith; from = reached; before = high }
    ]

-- a date with this day number
record Dated (n : ℕ) : Type 0 where
  year : ℕ
  month : ℕ
  day : ℕ
  is : IsCivilDate (pos year) month day
  number : days_from_civil (pos year) month day ≡ pos n

dated : (n : ℕ) → n ≤ 47481 → Dated n
dated n few =
    let count : ℕ = n + 4371953 in
    let y = last to_year count 131 (omega (arith, day_count-epoch)) (omega (arith, years_long 131)) in
    let year : ℕ = 1970 + y.at in
    let m = last (to_month (pos year)) count 12 (omega (arith, y.from))
    (omega (arith, y.before, next_year y.at, all_months (pos year))) in
    let day : ℕ = count - to_month (pos year) m.at + 1 in
    let long : day ≤ days_in_month (pos year) (m.at + 1) =
    omega (arith, m.from, m.before, next_month (pos year) m.at) in
    let same : day_count (pos year) (m.at + 1) day ≡ count =
    omega (arith, m.from, day_count-day (pos year) (m.at + 1) 1 day (omega arith) (omega arith)) in
    record {
      year = year;
      month = m.at + 1;
      day = day;
      is = (
        (omega (arith, signed_arith), omega (arith, signed_arith, y.below)),
        (omega arith, omega (arith, m.below)),
        (omega arith, long),
      );
      number = omega (arith, signed_arith, same, days_from_civil-day_count (pos year) (m.at + 1) day);
    }

-- a text of the time, in milliseconds
pub each_time : (time : ℕ) → time ≤ LAST_TIME → (text : List ℕ) × IsTimeTextOf 3 time text
each_time time most =
    let d = dated (time / 86400000000) (omega arith) in
    let split : IsSplit time d.year d.month d.day (time % 86400000000 / 1000000) (time % 86400000000 % 1000000) =
    record { date = d.is; number = d.number; of_day = refl; of_second = refl } in
    (_, millis_text time d.year d.month d.day (time % 86400000000 / 1000000) (time % 86400000000 % 1000000) split)
