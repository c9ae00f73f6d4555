-- The window of a time.
use Rattle.std.specs.Prelude.{◌≡◌, ℕ, ℤ, pos, negsuc, ◌<ℤ◌, ◌≤ℤ◌, Option, Some, None}
use Rattle.fix_schedule.specs.declared.hours.Hours.{Hours}
use Rattle.fix_schedule.specs.Days.{Counts, IsLastDay}
use Rattle.fix_schedule.specs.Zone.{IsInstant}

-- a time before 1970 is given as 0
abbrev pub given : ℤ → ℕ
given (pos n) = n
given (negsuc n) = 0

-- the window that starts on a civil day, where the time lies in it: the day counts, the start isn't
-- after the time and the end isn't before it
pub record IsWindowOn (hours : Hours) (time : ℕ) (day : ℤ) (window : ℕ × ℕ) : Type 0 where
  pub last : ℤ
  pub start : ℤ
  pub end : ℤ
  pub counts : Counts hours day
  pub ends_on : IsLastDay hours day last
  pub starts : IsInstant hours.rule day hours.start_time start
  pub ends : IsInstant hours.rule last hours.end_time end
  pub from : start ≤ℤ pos time
  pub to : pos time ≤ℤ end
  pub pair : window ≡ (given start, given end)

-- the window of a time is that of the latest of all civil days that have one in which the time lies
pub record IsLatestWindow (hours : Hours) (time : ℕ) (window : ℕ × ℕ) : Type 0 where
  pub day : ℤ
  pub on_day : IsWindowOn hours time day window
  pub latest : (later : ℤ) (other : ℕ × ℕ) → day <ℤ later → IsWindowOn hours time later other → ⊥

-- without StartTime it is all time
abbrev pub IsWindow : Option Hours → ℕ → ℕ × ℕ → Type 0
IsWindow None time window = window ≡ (0, 18446744073709551615)
IsWindow (Some hours) time window = IsLatestWindow hours time window

-- the time lies in the window of no civil day
abbrev pub HasNoWindow : Option Hours → ℕ → Type 0
HasNoWindow None time = ⊥
HasNoWindow (Some hours) time = (day : ℤ) (window : ℕ × ℕ) → IsWindowOn hours time day window → ⊥

-- both times have a window, and these start at the same time
pub record AreInOne (schedule : Option Hours) (a b : ℕ) : Type 0 where
  pub first : ℕ × ℕ
  pub second : ℕ × ℕ
  pub of_a : IsWindow schedule a first
  pub of_b : IsWindow schedule b second
  pub one : first.0 ≡ second.0
