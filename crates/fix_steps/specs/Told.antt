-- What the machine is told of a message, and that the steps of its answer may be done.
use Rattle.std.specs.Prelude.{◌≡◌, ◌⊎◌, ◌≤◌, ℕ, codes, List, [], false, true, Option, Some, None, Ok, IfSome}
use Rattle.std.specs.List.{AllByRecursion}
use Rattle.fix_base.specs.Fields.{Field}
use Rattle.fix_base.specs.Message.{Message}
use Rattle.fix_base.specs.declared.identity.Identity.{Identity}
use Rattle.fix_base.specs.EndStep.{Answer, AskedReset, OwnReset, Confirmed, EndState}
use Rattle.fix_stage.specs.declared.sender.Sender.{Sender}
use Rattle.fix_base.specs.Says.{value_of, is_yes, is_admin_type}
use Rattle.fix_fields.specs.Header.{header_of_fields}
use Rattle.fix_admin.specs.Admin.{admin_of}
use Rattle.fix_machine.specs.declared.state.MachineState.{MachineState}
use Rattle.fix_machine.specs.Event.{Inbound, VerdictSeen, App, Admin, Bad}
use Rattle.fix_machine.specs.Event.{EventSeen, Begin, First, Frame, Moved, Clock, Leave, Ended, Wrote}
use Rattle.fix_machine.specs.declared.state.Phase.TheVariants.{Down}
use Rattle.fix_machine.specs.declared.state.Phase.{Phase}
use Rattle.fix_machine.specs.declared.state.Role.{Role}
use Rattle.fix_machine.specs.declared.state.Role.TheVariants.{Acceptor, Initiator}
use Rattle.fix_machine.specs.Answer.{Answered, names}
use Rattle.fix_machine.specs.Numbers.{expected_after}
use Rattle.fix_steps.specs.Steps.{IsCarried}
use Rattle.fix_steps.specs.Leaves.{IsInOrder}
use Rattle.fix_steps.specs.Lawful.{Standing, IsFresh, MayAnswer, MayRenew, LetsCount, IsSilent, InStep, InBounds}

-- what is told of a message of this MsgType (35) after its header: of a fault nothing is asked
abbrev pub IsVerdict : List ℕ → List Field → VerdictSeen → Type 0
IsVerdict type fields App = is_admin_type type ≡ false
IsVerdict type fields (Admin admin) = (is_admin_type type ≡ true) × (admin_of type fields ≡ Ok admin)
IsVerdict type fields (Bad fault) = Unit {0}

-- what is told of a message is what its fields say
pub record IsTold (fields : List Field) (i : Inbound) : Type 0 where
  pub type : List ℕ
  pub typed : value_of 35 fields ≡ Some type
  pub header : i.header ≡ header_of_fields i.header.begin fields
  pub gap : i.gap ≡ is_yes (value_of 123 fields)
  pub reset : i.reset ≡ is_yes (value_of 141 fields)
  pub verdict : IsVerdict type fields i.verdict

-- another event than a message. The first Logon of a session that asks for a reset isn't one of these
abbrev pub IsOther : MachineState → EventSeen → Type 0
IsOther s (Begin role now) = Unit {0}
IsOther s First = s.reset_asked ≡ false
IsOther s (Frame message) = ⊥
IsOther s (Moved waiting) = Unit {0}
IsOther s (Clock now inside) = Unit {0}
IsOther s (Leave now) = Unit {0}
IsOther s Ended = Unit {0}
IsOther s (Wrote now) = Unit {0}

-- the steps of the answer may be done, from this number to the one that they say; and the next message may be answered
-- after them
pub record MayBeDone (x : Option Message) (n : ℕ) (a : Answered) : Type 0 where
  pub to : Standing
  pub fresh : IsFresh to
  pub may : MayAnswer x n a.steps to (expected_after a.steps n)

-- the message is a Logon (A) that asks for a reset under number 1, or one that asks for none
abbrev pub IsAskedBy : Inbound → Answer → Type 0
IsAskedBy i AskedReset = (names i.header.type (codes "A") ≡ true) × (i.reset ≡ true) × (i.header.number ≡ Some 1)
IsAskedBy i OwnReset = (names i.header.type (codes "A") ≡ true) × (i.reset ≡ false)
IsAskedBy i Confirmed = ⊥

-- The steps of the answer to the first message on a connection may be done: it is refused, and counts for nothing; it
-- asks for no reset; or an acceptor begins the numbers anew
pub data MayBegin (x : Option Message) (s : MachineState) (i : Inbound) (a : Answered) : Type 0 where
  refuses : (to : Standing) → IsFresh to → a.next.phase ≡ Down
      → MayAnswer None s.expected a.steps to (expected_after a.steps s.expected) → MayBegin x s i a
  counts : i.reset ≡ false → MayBeDone x s.expected a → MayBegin x s i a
  renews : (answer : Answer) (to : Standing) → IsFresh to → s.role ≡ Acceptor → IsAskedBy i answer
      → MayRenew x answer a.steps to (expected_after a.steps s.expected) → MayBegin x s i a

-- ---- the end that awaits the first message, and the end that has answered it

-- An acceptor has written nothing on the connection, and an initiator its Logon
abbrev pub IsAwaiting : Identity → List ℕ → Role → ℕ → Sender → EndState → Type 0
IsAwaiting id read Acceptor n = InBounds (IsSilent id read n)
IsAwaiting id read Initiator n = InBounds (InStep id read [] n)

-- the end is in step with the session, and messages count then, unless it was closed
pub record HasBegun (id : Identity) (read : List ℕ) (phase : Phase) (n : ℕ) (b : Sender) (e : EndState) : Type 0 where
  pub resets : List Answer
  pub lets : LetsCount read resets ⊎ (phase ≡ Down)
  pub stands : InBounds (InStep id read resets n) b e

-- ---- what a decision asks of who carries it out

-- the number that is expected is one, and so is the one that showed a gap
pub record IsBounded (s : MachineState) : Type 0 where
  pub first : 1 ≤ s.expected
  pub last : s.expected ≤ 1000000000
  pub gap : IfSome s.resend_requested (λ gap. gap.above ≤ 999999999)

-- each step can be carried out, they stand in order, and the state after them is bounded again
pub record IsPossibleAnswer (frame : Option (List ℕ)) (a : Answered) : Type 0 where
  pub steps : AllByRecursion (IsCarried frame) a.steps
  pub order : IsInOrder a.steps
  pub next : IsBounded a.next
