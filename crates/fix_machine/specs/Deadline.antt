-- When a session has next to look at the clock.
use Rattle.std.specs.Prelude.{◌≡◌, ℕ, ◌<◌, ◌≤◌, nat_le, min, if◌then◌else◌, Bool, true, false, Option, Some, None}
use Rattle.std.specs.Prelude.{is_some}
use Rattle.fix_base.specs.Payload.{LAST_TIME}
use Rattle.fix_machine.specs.State.{Options, MachineState}
use Rattle.fix_machine.specs.Clock.{elapsed, due_at}

-- a reading after the last one that may come
pub record IsAhead (s : MachineState) (t : ℕ) : Type 0 where
  pub above : s.reading < t
  pub last : t ≤ LAST_TIME

-- the least reading ahead at which the test is true, or that there is none
pub data IsFirst (s : MachineState) (p : ℕ → Bool) : Option ℕ → Type 0 where
  first : (t : ℕ) → IsAhead s t → p t ≡ true → ((u : ℕ) → IsAhead s u → u < t → p u ≡ false) → IsFirst s p (Some t)
  never : ((u : ℕ) → IsAhead s u → p u ≡ false) → IsFirst s p None

-- the least reading ahead that brings something, in the time of the session
abbrev pub IsDeadline : Options → MachineState → Option ℕ → Type 0
IsDeadline o s = IsFirst s (λ t. is_some (due_at o s t))

-- so many microseconds have gone since
abbrev pub has_passed : ℕ → ℕ → ℕ → Bool
has_passed after since now = nat_le after (elapsed since now)

-- the earlier of two
abbrev pub earlier : Option ℕ → Option ℕ → Option ℕ
earlier None b = b
earlier (Some a) None = Some a
earlier (Some a) (Some b) = Some (min a b)

-- a time, where it lies before the end of 2099
abbrev pub capped : ℕ → Option ℕ
capped at = if nat_le at LAST_TIME then Some at else None
