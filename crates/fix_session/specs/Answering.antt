-- What a session does at an event: its machine decides, and the steps are carried out.
use Rattle.std.specs.Prelude.{◌≡◌, ◌≢◌, ℕ, List, [], Bool, true, false, Option, Some, None, is_some, Result, Ok, Err, ⊤}
use Rattle.fix_base.specs.declared.identity.Identity.{Identity}
use Rattle.fix_outside.specs.Calls.{Call}
use Rattle.fix_machine.specs.Event.{Inbound, EventSeen, StepSeen, Frame, Moved}
use Rattle.fix_stage.specs.Combine.{AndThen, Lifted}
use Rattle.fix_steps.specs.declared.ending.Ending.{Ending}
use Rattle.fix_steps.specs.declared.ending.Ending.TheVariants as ending
use Rattle.fix_steps.specs.Steps.{Carried}
use Rattle.fix_session.specs.Judged.{RulesSeen}
use Rattle.fix_session.specs.State.{State, sender_of, with_sender, answer_of, decided, expected_of}
use Rattle.fix_session.specs.Inbound.{IsInbound}
use Rattle.fix_session.specs.Waits.{Waits, waits_at, due_frame, passed, While}

-- ---- the steps

abbrev pub same_ending : Ending → Ending
same_ending e = e

-- they are carried out by its sender
abbrev pub Carrying : Identity → Option (List ℕ) → List StepSeen → State → List Call → Result ⊤ Ending → State → Type 0
Carrying id frame steps = Lifted sender_of with_sender same_ending (Carried id frame steps)

-- all of them are done: what the store has of a reset that was asked for is what the machine says
pub data Stood (s : State) : List Call → Result ⊤ Ending → State → Type 0 where
  stood : Stood s [] (Ok tt) (record s { asked = s.machine.state.reset_asked })

abbrev pub Standing : Identity → Option (List ℕ) → List StepSeen → State → List Call → Result ⊤ Ending → State → Type 0
Standing id frame steps = AndThen (Carrying id frame steps) Stood

-- ---- an event

-- another event than a message
abbrev pub Answers : Identity → EventSeen → State → List Call → Result ⊤ Ending → State → Type 0
Answers id e s = Standing id None (answer_of s e).steps (decided s e)

-- one that was read lets itself wait where the answer says so; one that waited does not
abbrev pub WaitsIfNew : Bool → List ℕ → Option ℕ → List StepSeen → State → List Call → Result ⊤ Ending → State → Type 0
WaitsIfNew true frame number steps = Waits frame number steps
WaitsIfNew false frame number steps = Waits frame number []

-- a message, which was read now or waited
pub data AnswersFrame (id : Identity) (rules : RulesSeen) (new : Bool) (frame : List ℕ) (s : State) : List Call
    → Result ⊤ Ending → State → Type 0 where
  -- out of memory for the check by the dictionary
  not_judged : AnswersFrame id rules new frame s [] (Err ending.OutOfMemory) s
  judged : {calls : List Call} {r : Result ⊤ Ending} {to : State} (i : Inbound) → IsInbound rules s.waiting frame i
      → AndThen (WaitsIfNew new frame i.header.number (answer_of s (Frame i)).steps)
      (Standing id (Some frame) (answer_of s (Frame i)).steps) (decided s (Frame i)) calls r to
      → AnswersFrame id rules new frame s calls r to

-- ---- what follows a message

-- where it changed the expected number, the next messages of a gap may be asked for
pub data Moves (id : Identity) (before : ℕ) (s : State) : List Call → Result ⊤ Ending → State → Type 0 where
  stays : expected_of s ≡ before → Moves id before s [] (Ok tt) s
  moves : {calls : List Call} {r : Result ⊤ Ending} {to : State} → expected_of s ≢ before
      → Answers id (Moved (is_some (waits_at (expected_of s) s.waiting))) s calls r to → Moves id before s calls r to

abbrev pub Round : Identity → RulesSeen → Bool → List ℕ → State → List Call → Result ⊤ Ending → State → Type 0
Round id rules new frame s = AndThen (AnswersFrame id rules new frame) (Moves id (expected_of s)) s

-- each frame that waits is answered when its number is expected
abbrev pub OneWaiting : Identity → RulesSeen → State → List ℕ → List Call → Result ⊤ Ending → State → Type 0
OneWaiting id rules s frame = Round id rules false frame s

abbrev pub CatchesUp : Identity → RulesSeen → State → List Call → Result ⊤ Ending → State → Type 0
CatchesUp id rules = While due_frame passed (OneWaiting id rules)

-- a frame that was read, and then those that waited for it
abbrev pub Receives : Identity → RulesSeen → List ℕ → State → List Call → Result ⊤ Ending → State → Type 0
Receives id rules frame = AndThen (Round id rules true frame) (CatchesUp id rules)
