-- The days on which windows start and end.
use Rattle.std.specs.Prelude.{◌≡◌, ℕ, ℤ, pos, ◌+◌, ◌<◌, ◌+ℤ◌, ◌<ℤ◌, ◌⊎◌, Option, Some, None}
use Rattle.jiff_core.specs.Calendar.{weekday_number}
use Rattle.fix_schedule.specs.declared.hours.Hours.{Hours}
use Rattle.fix_schedule.specs.declared.hours.Week.{Week}

-- a window may start on the day: on each, or on StartDay alone
abbrev pub CountsIn : Option Week → ℤ → Type 0
CountsIn None day = Unit {0}
CountsIn (Some week) day = weekday_number day + 1 ≡ week.start_day

abbrev pub Counts : Hours → ℤ → Type 0
Counts hours day = CountsIn hours.week day

-- and end: on each, or on EndDay alone
abbrev pub EndsIn : Option Week → ℤ → Type 0
EndsIn None day = Unit {0}
EndsIn (Some week) day = weekday_number day + 1 ≡ week.end_day

-- EndTime of the second day comes after StartTime of the first, and windows end on the second
pub record MayEnd (hours : Hours) (day last : ℤ) : Type 0 where
  pub after : (day <ℤ last) ⊎ ((day ≡ last) × (hours.start_time < hours.end_time))
  pub ends : EndsIn hours.week last

-- a window that starts on the first day ends on the first such day: the same where EndTime is after
-- StartTime, else the following; with StartDay and EndDay the next EndDay
pub record IsLastDay (hours : Hours) (day last : ℤ) : Type 0 where
  pub may : MayEnd hours day last
  pub first : (sooner : ℤ) → sooner <ℤ last → MayEnd hours day sooner → ⊥

-- it is so many days after each day that counts
abbrev pub EndsAfter : Hours → ℕ → Type 0
EndsAfter hours days = (day : ℤ) → Counts hours day → IsLastDay hours day (day +ℤ pos days)
