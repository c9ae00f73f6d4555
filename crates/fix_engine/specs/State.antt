-- The state of a session, and how each step changes it.
use Rattle.std.specs.Prelude.{ℕ, ◌+◌, ◌≤◌, min, Option, Some, None}
use Rattle.fix_base.specs.Payload.{LAST_TIME}
pub use Rattle.fix_engine.specs.declared.state.Phase.{Phase}
pub use Rattle.fix_engine.specs.declared.state.Phase.TheVariants.{Down, AwaitLogon, Up}
pub use Rattle.fix_engine.specs.declared.state.State.{State}
pub use Rattle.fix_engine.specs.declared.state.Refusal.{Refusal}
pub use Rattle.fix_engine.specs.declared.state.Refusal.TheVariants.{NotLogon}
pub use Rattle.fix_engine.specs.declared.state.Why.{Why}
pub use Rattle.fix_engine.specs.declared.state.Why.TheVariants.{PeerEnd, LoggedOut, Refused}
pub use Rattle.fix_engine.specs.declared.state.Ending.{Ending}
pub use Rattle.fix_engine.specs.declared.state.Say.{Say}
pub use Rattle.fix_engine.specs.declared.state.Say.TheVariants.{Logon, Logout}
pub use Rattle.fix_engine.specs.declared.state.Step.{Step}

-- the numbers and the reading stay within their bounds
pub record IsInRange (s : State) : Type 0 where
  pub expected : 1 ≤ s.expected
  pub expected_bound : s.expected ≤ 1000000000
  pub stored_expected : 1 ≤ s.stored_expected
  pub stored_expected_bound : s.stored_expected ≤ 1000000000
  pub last : s.last ≤ 999999999
  pub reading : s.reading ≤ LAST_TIME

-- a session that never did anything
abbrev pub first_state : State
first_state = record { phase = Down; expected = 1; stored_expected = 1; last = 0; reading = 0 }

abbrev pub with_phase : State → Phase → State
with_phase s phase = record {
  phase = phase;
  expected = s.expected;
  stored_expected = s.stored_expected;
  last = s.last;
  reading = s.reading;
}

abbrev pub with_expected : State → ℕ → State
with_expected s n = record {
  phase = s.phase;
  expected = n;
  stored_expected = s.stored_expected;
  last = s.last;
  reading = s.reading;
}

abbrev pub with_last : State → ℕ → State
with_last s n = record {
  phase = s.phase;
  expected = s.expected;
  stored_expected = s.stored_expected;
  last = n;
  reading = s.reading;
}

-- the expected number is kept as it is
abbrev pub with_stored_expected : State → State
with_stored_expected s = record {
  phase = s.phase;
  expected = s.expected;
  stored_expected = s.expected;
  last = s.last;
  reading = s.reading;
}

-- a reading beyond the end of 2099 counts as that
abbrev pub with_reading : State → ℕ → State
with_reading s t = record {
  phase = s.phase;
  expected = s.expected;
  stored_expected = s.stored_expected;
  last = s.last;
  reading = min t LAST_TIME;
}

-- the inbound message is counted, where there is one
abbrev pub counted : State → Option ℕ → State
counted s None = s
counted s (Some n) = with_expected s (n + 1)
