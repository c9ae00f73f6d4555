-- The steps of an answer, done in order until one ends it.
use Rattle.std.specs.Prelude.{◌≡◌, ◌≤◌, ℕ, List, [], ◌∷◌, true, false, Option, Some, None, Result, Ok, Err, ⊤}
use Rattle.fix_base.specs.declared.identity.Identity.{Identity}
use Rattle.fix_base.specs.Fields.{Field}
use Rattle.fix_base.specs.Shape.{IsFrame}
use Rattle.fix_base.specs.Wrote.{IsRequestRange}
use Rattle.fix_base.specs.Says.{HasFields, value_of, seq_num_of, is_yes, body_of}
use Rattle.fix_outside.specs.declared.handing.Said.{Said}
use Rattle.fix_outside.specs.declared.handing.Said.TheVariants as said
use Rattle.fix_outside.specs.Calls.{Call, Hand}
use Rattle.fix_fields.specs.declared.header.Envelope.{Envelope}
use Rattle.fix_fields.specs.Header.{header_of, header_of_fields}
use Rattle.fix_admin.specs.Say.{SaySeen}
use Rattle.fix_machine.specs.declared.event.Why.{Why}
use Rattle.fix_machine.specs.Event as step
use Rattle.fix_machine.specs.Event.{StepSeen, Send, Serve, Stash, Expect, Reset, Confirm, Close, Nothing}
use Rattle.fix_machine.specs.Answer.{number_or_0}
use Rattle.fix_machine.specs.Numbers.{begins_with_a_flush}
use Rattle.fix_stage.specs.Combine.{Each, AndThen, Lifted}
use Rattle.fix_stage.specs.declared.sender.Sender.{Sender}
use Rattle.fix_stage.specs.declared.fault.StageFault.{StageFault}
use Rattle.fix_stage.specs.Sender.{with_numbers, with_expected}
use Rattle.fix_stage.specs.Flush.{Flushed}
use Rattle.fix_stage.specs.Staging.{MakesAndStages}
use Rattle.fix_stage.specs.Serving.{Served}
use Rattle.fix_steps.specs.Said.{said_outgoing, IsSayable}
use Rattle.fix_steps.specs.declared.ending.Ending.{Ending}
use Rattle.fix_steps.specs.Ending.{ending_of}
use Rattle.fix_steps.specs.declared.ending.Ending.TheVariants as ending
use Rattle.fix_steps.specs.Resetting.{Resetting, Confirming}
use Rattle.fix_steps.specs.declared.source.Source.{Source}
use Rattle.fix_steps.specs.declared.source.Source.TheVariants as source

-- ---- what is answered

-- a frame, and the header that it says
pub record IsMessage (frame : List ℕ) (head : Envelope) : Type 0 where
  pub is : IsFrame frame
  pub header : (fields : List Field) → HasFields frame fields
      → header_of head ≡ header_of_fields head.begin.now fields

abbrev pub IsSource : Source → Type 0
IsSource (source.Message frame head) = IsMessage frame.now head.now
IsSource source.Other = Unit {0}

-- the frame of the message, where one is answered
abbrev pub frame_in : Source → Option (List ℕ)
frame_in (source.Message frame head) = Some frame.now
frame_in source.Other = None

abbrev pub IsThere : Option (List ℕ) → Type 0
IsThere None = ⊥
IsThere (Some text) = Unit {0}

-- A step that can be carried out. What is said is sayable, what is served is a range, nothing is handed over where no
-- message is answered, and a number that is expected is one
abbrev pub IsCarried : Option (List ℕ) → StepSeen → Type 0
IsCarried frame (Send say) = IsSayable say
IsCarried frame (Serve from to) = IsRequestRange from to
IsCarried frame step.Hand = IsThere frame
IsCarried frame Stash = Unit {0}
IsCarried frame (Expect number) = (1 ≤ number) × (number ≤ 1000000000)
IsCarried frame Reset = Unit {0}
IsCarried frame Confirm = Unit {0}
IsCarried frame (Close why) = Unit {0}
IsCarried frame Nothing = Unit {0}

-- ---- what the steps come to

abbrev pub itself : Sender → Sender
itself b = b

abbrev pub instead : Sender → Sender → Sender
instead b to = to

-- something of sending is done in an answer: its fault ends the answer
abbrev pub InAnswer : (Sender → List Call → Result ⊤ StageFault → Sender → Type 0) → Sender → List Call
    → Result ⊤ Ending → Sender → Type 0
InAnswer R = Lifted itself instead ending_of R

-- a message is said at the time of the last reading
abbrev pub Saying : Identity → SaySeen → Sender → List Call → Result ⊤ Ending → Sender → Type 0
Saying id say b = InAnswer (MakesAndStages id (said_outgoing id.begin b.numbers.reading say)) b

-- the message is handed over: with its number, its mark and its body
abbrev pub hand_call : List Field → Said → Call
hand_call fields said = Hand (number_or_0 (seq_num_of fields)) (is_yes (value_of 43 fields)) (body_of fields) said

pub data Handing (frame : Option (List ℕ)) (b : Sender) : List Call → Result ⊤ Ending → Sender → Type 0 where
  taken : (text : List ℕ) (fields : List Field) → frame ≡ Some text → HasFields text fields
      → Handing frame b (hand_call fields said.Taken ∷ []) (Ok tt) b
  hand_lost : (text : List ℕ) (fields : List Field) → frame ≡ Some text → HasFields text fields
      → Handing frame b (hand_call fields said.Failed ∷ []) (Err ending.AppFault) b
  hand_memory : (text : List ℕ) (fields : List Field) → frame ≡ Some text → HasFields text fields
      → Handing frame b (hand_call fields said.OutOfMemory ∷ []) (Err ending.OutOfMemory) b
  -- out of memory for its body
  body_memory : Handing frame b [] (Err ending.OutOfMemory) b

-- One step. A message that finds no number left ends the answer: what was counted before it stays counted, and
-- nothing after it is done. After a close nothing more is done either; what is staged is kept and written at the end of
-- the turn. A message that waits is kept by who asked for the answer
pub data Performed (id : Identity) (frame : Option (List ℕ)) (b : Sender) : StepSeen → List Call → Result ⊤ Ending
    → Sender → Type 0 where
  says : (say : SaySeen) {calls : List Call} {r : Result ⊤ Ending} {to : Sender} → Saying id say b calls r to
      → Performed id frame b (Send say) calls r to
  serves : (from until : ℕ) {calls : List Call} {r : Result ⊤ Ending} {to : Sender}
      → InAnswer (Served id from until) b calls r to → Performed id frame b (Serve from until) calls r to
  hands : {calls : List Call} {r : Result ⊤ Ending} {to : Sender} → Handing frame b calls r to
      → Performed id frame b step.Hand calls r to
  waits : Performed id frame b Stash [] (Ok tt) b
  expects : (number : ℕ)
      → Performed id frame b (Expect number) [] (Ok tt) (with_numbers b (with_expected b.numbers number))
  resets : {calls : List Call} {r : Result ⊤ Ending} {to : Sender} → Resetting b calls r to
      → Performed id frame b Reset calls r to
  confirms : {calls : List Call} {r : Result ⊤ Ending} {to : Sender} → Confirming b calls r to
      → Performed id frame b Confirm calls r to
  closes : (why : Why) → Performed id frame b (Close why) [] (Err (ending.Closed why)) b
  nothing : Performed id frame b Nothing [] (Ok tt) b

-- what is staged is kept and written first, where one of the steps is one that this is done before. So nothing of the
-- answer is counted where that failed
pub data Begins (steps : List StepSeen) (b : Sender) : List Call → Result ⊤ Ending → Sender → Type 0 where
  flushes : {calls : List Call} {r : Result ⊤ Ending} {to : Sender} → begins_with_a_flush steps ≡ true
      → InAnswer (Flushed 0) b calls r to → Begins steps b calls r to
  at_once : begins_with_a_flush steps ≡ false → Begins steps b [] (Ok tt) b

-- the steps in order
abbrev pub Done : Identity → Option (List ℕ) → List StepSeen → Sender → List Call → Result ⊤ Ending → Sender → Type 0
Done id frame steps b = Each (Performed id frame) b steps

-- the answer
abbrev pub Carried : Identity → Option (List ℕ) → List StepSeen → Sender → List Call → Result ⊤ Ending → Sender → Type 0
Carried id frame steps = AndThen (Begins steps) (Done id frame steps)
