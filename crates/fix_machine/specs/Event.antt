-- What happens to a session, and the steps of its answer, as contracts see them.
use Rattle.std.specs.Prelude.{◌≡◌, ℕ, Bool, List, Option, Some, None, IfSome, ℤ}
use Rattle.std.specs.Borrow.{Bor}
use Rattle.fix_base.specs.declared.fault.Fault.{Fault}
use Rattle.fix_base.specs.Times.{IsUtcTimestamp}
use Rattle.fix_fields.specs.declared.header.Envelope.{Envelope}
use Rattle.fix_fields.specs.Header.{Header, header_of}
use Rattle.fix_admin.specs.Admin.{AdminSeen, admin_seen}
use Rattle.fix_admin.specs.Say.{SaySeen, say_seen}
use Rattle.fix_machine.specs.declared.state.Role.{Role}
use Rattle.fix_machine.specs.declared.event.Verdict.{Verdict}
use Rattle.fix_machine.specs.declared.event.Verdict.TheVariants as verdict
use Rattle.fix_machine.specs.declared.event.Event.{Event}
use Rattle.fix_machine.specs.declared.event.Event.TheVariants as event
use Rattle.fix_machine.specs.declared.event.Why.{Why}
use Rattle.fix_machine.specs.declared.event.Step.{Step}
use Rattle.fix_machine.specs.declared.event.Step.TheVariants as step

-- what a message is after its header
pub data VerdictSeen : Type 0 where
  App : VerdictSeen
  Admin : (admin : AdminSeen) → VerdictSeen
  Bad : (fault : Fault) → VerdictSeen

abbrev pub verdict_seen : Verdict → VerdictSeen
verdict_seen verdict.App = App
verdict_seen (verdict.Admin admin) = Admin (admin_seen admin)
verdict_seen (verdict.Bad fault) = Bad fault

-- a message: its header, the times that SendingTime (52) and OrigSendingTime (122) say, what it is,
-- whether no message more can wait, and whether its first GapFillFlag (123) and ResetSeqNumFlag (141)
-- are Y
pub record Inbound : Type 0 where
  pub header : Header
  pub sent : Option ℤ
  pub first_sent : Option ℤ
  pub verdict : VerdictSeen
  pub full : Bool
  pub gap : Bool
  pub reset : Bool

pub data EventSeen : Type 0 where
  Begin : (role : Role) (now : ℕ) → EventSeen
  First : EventSeen
  Frame : (message : Inbound) → EventSeen
  Moved : (waiting : Bool) → EventSeen
  Clock : (now : ℕ) (inside : Bool) → EventSeen
  Leave : (now : ℕ) → EventSeen
  Ended : EventSeen
  Wrote : (now : ℕ) → EventSeen

-- the time that the text says, or that it says none
pub record IsTimeOf (text : List ℕ) (time : Option ℤ) : Type 0 where
  pub known : IfSome time (IsUtcTimestamp text)
  pub each : (t : ℤ) → IsUtcTimestamp text t → time ≡ Some t

-- the time of a field that may be absent
abbrev pub IsSaid : Option (List ℕ) → Option ℤ → Type 0
IsSaid None time = time ≡ None
IsSaid (Some text) time = IsTimeOf text time

-- the event is this one
pub data IsEvent : Event → EventSeen → Type 0 where
  begins : (role : Role) (now : ℕ) → IsEvent (event.Begin role now) (Begin role now)
  is_first : IsEvent event.First First
  reads : (head : Bor Envelope) (v : Verdict) (full gap reset : Bool) (sent first_sent : Option ℤ)
      → IsSaid (header_of head.now).sending_time sent → IsSaid (header_of head.now).orig_sending_time first_sent
      → IsEvent (event.Frame head v full gap reset) (Frame (record {
        header = header_of head.now;
        sent = sent;
        first_sent = first_sent;
        verdict = verdict_seen v;
        full = full;
        gap = gap;
        reset = reset;
      }))
  moves : (waiting : Bool) → IsEvent (event.Moved waiting) (Moved waiting)
  looks : (now : ℕ) (inside : Bool) → IsEvent (event.Clock now inside) (Clock now inside)
  leaves : (now : ℕ) → IsEvent (event.Leave now) (Leave now)
  ends : IsEvent event.Ended Ended
  wrote : (now : ℕ) → IsEvent (event.Wrote now) (Wrote now)

-- a message was read
abbrev pub IsFrameEvent : Event → Type 0
IsFrameEvent (event.Begin role now) = ⊥
IsFrameEvent event.First = ⊥
IsFrameEvent (event.Frame head v full gap reset) = Unit {0}
IsFrameEvent (event.Moved waiting) = ⊥
IsFrameEvent (event.Clock now inside) = ⊥
IsFrameEvent (event.Leave now) = ⊥
IsFrameEvent event.Ended = ⊥
IsFrameEvent (event.Wrote now) = ⊥

-- one thing to do
pub data StepSeen : Type 0 where
  Send : (say : SaySeen) → StepSeen
  Serve : (from to : ℕ) → StepSeen
  Hand : StepSeen
  Stash : StepSeen
  Expect : (number : ℕ) → StepSeen
  Reset : StepSeen
  Confirm : StepSeen
  Close : (why : Why) → StepSeen
  Nothing : StepSeen

abbrev pub step_seen : Step → StepSeen
step_seen (step.Send say) = Send (say_seen say)
step_seen (step.Serve from to) = Serve from to
step_seen step.Hand = Hand
step_seen step.Stash = Stash
step_seen (step.Expect number) = Expect number
step_seen step.Reset = Reset
step_seen step.Confirm = Confirm
step_seen (step.Close why) = Close why
step_seen step.Nothing = Nothing
