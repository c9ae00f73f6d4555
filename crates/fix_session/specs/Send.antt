-- A message is sent outside of a turn: it is staged, and kept and written at once.
use Rattle.std.specs.Prelude.{◌≡◌, ℕ, List, [], ◌++◌, Bool, true, false, Result, Ok, Err, ⊤}
use Rattle.fix_base.specs.declared.bytes.OutOfMemory.{OutOfMemory}
use Rattle.fix_base.specs.declared.identity.Identity.{Identity}
use Rattle.fix_outside.specs.Calls.{Call}
use Rattle.fix_fields.specs.Drafted.{DraftText}
use Rattle.fix_admin.specs.Say.{Logout}
use Rattle.fix_admin.specs.declared.say.LogoutText.TheVariants as text
use Rattle.fix_machine.specs.declared.state.Phase.{Phase}
use Rattle.fix_machine.specs.declared.state.Phase.TheVariants.{Down, AwaitLogon, Up, LogoutSent}
use Rattle.fix_machine.specs.Event.{EventSeen, Wrote, Leave}
use Rattle.fix_stage.specs.Combine.{AndThen, Lifted}
use Rattle.fix_stage.specs.declared.sender.Sender.{Sender}
use Rattle.fix_stage.specs.declared.fault.StageFault.{StageFault}
use Rattle.fix_stage.specs.declared.fault.StageFault.TheVariants as stage
use Rattle.fix_stage.specs.Outgoing.{Outgoing, draft_outgoing}
use Rattle.fix_stage.specs.Staging.{MakesAndStages}
use Rattle.fix_stage.specs.Flush.{Flushed}
use Rattle.fix_steps.specs.declared.ending.Ending.{Ending}
use Rattle.fix_steps.specs.Ending.{ending_of}
use Rattle.fix_steps.specs.Said.{said_outgoing}
use Rattle.fix_session.specs.State.{State, sender_of, with_sender, decided}
use Rattle.fix_session.specs.Turn.{is_cut_of, Leaves}
use Rattle.fix_session.specs.Begin.{TakesTime, itself, instead}

-- ---- what is sent

-- the message that is staged at a time, and what the machine is told of it
pub record Posting : Type 0 where
  pub message : ℕ → Outgoing
  pub event : ℕ → EventSeen

abbrev pub is_up : Phase → Bool
is_up Down = false
is_up AwaitLogon = false
is_up Up = true
is_up LogoutSent = false

-- a draft of the application, which is written in a session that is up, and else kept alone
abbrev pub draft_posting : Bool → DraftText → Posting
draft_posting written d = record { message = λ time. draft_outgoing time d written; event = Wrote }

-- the Logout (5) of a session that leaves
abbrev pub logout_posting : Identity → Posting
logout_posting id = record { message = λ time. said_outgoing id.begin time (Logout text.Empty); event = Leave }

-- ---- it is sent

abbrev pub stage_memory : OutOfMemory → StageFault
stage_memory e = stage.OutOfMemory

abbrev pub same_fault : StageFault → StageFault
same_fault e = e

abbrev pub BySender : (Sender → List Call → Result ⊤ StageFault → Sender → Type 0) → State → List Call
    → Result ⊤ StageFault → State → Type 0
BySender R = Lifted sender_of with_sender same_fault R

abbrev pub StagesIt : Identity → Posting → State → List Call → Result ⊤ StageFault → State → Type 0
StagesIt id p s = BySender (MakesAndStages id (p.message s.sender.numbers.reading)) s

pub data Tells (event : ℕ → EventSeen) (s : State) : List Call → Result ⊤ StageFault → State → Type 0 where
  tells : Tells event s [] (Ok tt) (decided s (event s.sender.numbers.reading))

-- at a look at the clock it is staged, and then it is kept and written
abbrev pub Posts : Identity → Posting → State → List Call → Result ⊤ StageFault → State → Type 0
Posts id p = AndThen (Lifted itself instead stage_memory TakesTime)
    (AndThen (StagesIt id p) (AndThen (Tells p.event) (BySender (Flushed 0))))

-- ---- how it ends

-- after a fault the session leaves its connection
pub data EndsSo (s : State) : Result ⊤ StageFault → List Call → Result ⊤ StageFault → State → Type 0 where
  stays_connected : EndsSo s (Ok tt) [] (Ok tt) s
  leaves : {to : State} {calls : List Call} (e : StageFault) → Leaves s (is_cut_of (ending_of e)) calls (Ok tt) to
      → EndsSo s (Err e) calls (Err e) to
  leaves_short : {to : State} {calls : List Call} (e : StageFault) (f : Ending)
      → Leaves s (is_cut_of (ending_of e)) calls (Err f) to → EndsSo s (Err e) calls (Err stage.OutOfMemory) to

pub data PostsOrLeaves (id : Identity) (p : Posting) (s : State) : List Call → Result ⊤ StageFault → State → Type 0 where
  posts : {mid to : State} {first more : List Call} {posted r : Result ⊤ StageFault} → Posts id p s first posted mid
      → EndsSo mid posted more r to → PostsOrLeaves id p s (first ++ more) r to
