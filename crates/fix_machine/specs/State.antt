-- The state of a session, as contracts see it, and how it changes.
use Rattle.std.specs.Prelude.{ℕ, ◌+◌, ◌≤◌, min, nat_lt, if◌then◌else◌, Option, Some, None, IfSome}
use Rattle.fix_base.specs.Payload.{LAST_TIME}
use Rattle.fix_base.specs.declared.entry.Stored.{Stored}
pub use Rattle.fix_machine.specs.declared.state.MachineState.{MachineState}
pub use Rattle.fix_machine.specs.declared.state.Options.{Options}
use Rattle.fix_machine.specs.declared.state.Phase.TheVariants as phase
use Rattle.fix_machine.specs.declared.state.Role.{Role}
use Rattle.fix_machine.specs.declared.state.Role.TheVariants as role

pub record MachineSeen : Type 0 where
  pub options : Options
  pub state : MachineState

-- the times of a state
pub record Times : Type 0 where
  pub reading : ℕ
  pub begun : ℕ
  pub sent_at : ℕ
  pub read_at : ℕ
  pub left_at : ℕ
  pub test_request : Option ℕ

abbrev pub times_of : MachineState → Times
times_of s = record {
  reading = s.reading;
  begun = s.begun;
  sent_at = s.sent_at;
  read_at = s.read_at;
  left_at = s.left_at;
  test_request = s.test_request_sent_at;
}

-- readings of the clock, up to the end of 2099
pub record AreReadings (t : Times) : Type 0 where
  pub reading : t.reading ≤ LAST_TIME
  pub begun : t.begun ≤ LAST_TIME
  pub sent_at : t.sent_at ≤ LAST_TIME
  pub read_at : t.read_at ≤ LAST_TIME
  pub left_at : t.left_at ≤ LAST_TIME
  pub test_request : IfSome t.test_request (λ u. u ≤ LAST_TIME)

abbrev pub IsTimed : MachineState → Type 0
IsTimed s = AreReadings (times_of s)

-- a session with no connection, over what is stored
abbrev pub stopped_at : Options → Stored → MachineState
stopped_at o stored = record {
  phase = phase.Down;
  role = role.Acceptor;
  expected = stored.expected;
  last = stored.last;
  heart = o.heart;
  resend_requested = None;
  reset_asked = stored.asked;
  reading = 0;
  begun = 0;
  sent_at = 0;
  read_at = 0;
  left_at = 0;
  test_request_sent_at = None;
}

-- the numbers are those of what is stored
abbrev pub resumed_at : Stored → MachineState → MachineState
resumed_at stored s = record s { expected = stored.expected; last = stored.last; reset_asked = stored.asked }

-- the clock was read; a reading beyond the end of 2099 counts as that
abbrev pub read_clock : ℕ → MachineState → MachineState
read_clock now s = record s { reading = min now LAST_TIME }

-- a connection begins at the last reading
abbrev pub begun_as : Options → Role → MachineState → MachineState
begun_as o side s = record s {
  phase = phase.AwaitLogon;
  role = side;
  heart = o.heart;
  resend_requested = None;
  begun = s.reading;
  sent_at = s.reading;
  read_at = s.reading;
  left_at = s.reading;
  test_request_sent_at = None;
}

-- a message was read
abbrev pub heard : MachineState → MachineState
heard s = record s { read_at = s.reading; test_request_sent_at = None }

-- the number after the last; at 999,999,999 there is none, and it stays
abbrev pub number_after : ℕ → ℕ
number_after n = if nat_lt n 999999999 then n + 1 else n

-- a message was sent
abbrev pub sent : MachineState → MachineState
sent s = record s { last = number_after s.last; sent_at = s.reading }

abbrev pub expecting : ℕ → MachineState → MachineState
expecting n s = record s { expected = n }

-- the message with this number is counted
abbrev pub counted : ℕ → MachineState → MachineState
counted n s = expecting (n + 1) s

-- the store is reset
abbrev pub emptied : MachineState → MachineState
emptied s = record s { expected = 1; last = 0 }

abbrev pub requested : ℕ → ℕ → MachineState → MachineState
requested above end s = record s { resend_requested = Some (record { above = above; end = end }) }

-- the Logon was answered
abbrev pub up : MachineState → MachineState
up s = record s { phase = phase.Up }

-- the connection is closed
abbrev pub closed : MachineState → MachineState
closed s = record s { phase = phase.Down }
