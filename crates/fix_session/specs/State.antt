-- A session between two messages, and how its parts change.
use Rattle.std.specs.Prelude.{◌≡◌, ℕ, List, Option, Some, None}
use Rattle.std.specs.FinMap as map
use Rattle.fix_base.specs.declared.identity.Identity.{Identity}
use Rattle.fix_base.specs.Fields.{Field}
use Rattle.fix_base.specs.Shape.{IsFrame}
use Rattle.fix_base.specs.Says.{HasFields, seq_num_of}
use Rattle.fix_base.specs.Trace.{OutsideSeen}
use Rattle.fix_machine.specs.declared.state.MachineState.{MachineState}
use Rattle.fix_machine.specs.Event.{EventSeen}
use Rattle.fix_machine.specs.Answer.{Answered}
use Rattle.fix_machine.specs.Decide.{answer_to}
use Rattle.fix_resend.specs.Waiting.{Waiting}
use Rattle.fix_stage.specs.declared.sender.Sender.{Sender}
use Rattle.fix_stage.specs.Sender.{IsReady}
use Rattle.fix_steps.specs.Told.{IsBounded}
pub use Rattle.fix_session.specs.declared.state.State.{State}

-- ---- its parts

abbrev pub sender_of : State → Sender
sender_of s = s.sender

abbrev pub with_sender : State → Sender → State
with_sender s b = record s { sender = b }

abbrev pub with_machine : State → MachineState → State
with_machine s m = record s { machine = record { options = s.machine.options; state = m } }

abbrev pub with_waiting : State → Waiting → State
with_waiting s w = record s { waiting = w }

-- ---- its machine

-- what its machine answers an event with
abbrev pub answer_of : State → EventSeen → Answered
answer_of s e = answer_to s.machine.options s.machine.state e

-- its machine has answered the event
abbrev pub decided : State → EventSeen → State
decided s e = with_machine s (answer_of s e).next

-- the inbound number that it expects
abbrev pub expected_of : State → ℕ
expected_of s = s.machine.state.expected

-- ---- what holds of it

-- each frame that waits is one, and waits under its own MsgSeqNum (34)
pub record IsWaitingUnder (n : ℕ) (frame : List ℕ) : Type 0 where
  pub is : IsFrame frame
  pub number : (fields : List Field) → HasFields frame fields → seq_num_of fields ≡ Some n

abbrev pub AreWaiting : Waiting → Type 0
AreWaiting w = (n : ℕ) (frame : List ℕ) → map.get w n ≡ Some frame → IsWaitingUnder n frame

-- Its numbers are in range, the store is open with so many entries, if it is open, and what waits are frames. No
-- session of FIXT.1.1 is carried out yet
pub record IsSound (id : Identity) (w : OutsideSeen) (open_at : Option ℕ) (s : State) : Type 0 where
  pub sender : IsReady id w open_at s.sender
  pub bounded : IsBounded s.machine.state
  pub waiting : AreWaiting s.waiting
  pub version : s.machine.options.version ≡ None
