-- What comes of an answer, call by call: sending, serving a ResendRequest, a hand-over, and what is kept of resets.
use Rattle.std.specs.Prelude.{◌≡◌, ℕ, List, Option, Some, Result, ⊤}
use Rattle.std.specs.List.{AllByRecursion}
use Rattle.fix_base.specs.declared.entry.Entry.{Entry}
use Rattle.fix_base.specs.declared.entry.Record.TheVariants.{Reset, Confirm}
use Rattle.fix_base.specs.Fields.{Field}
use Rattle.fix_base.specs.Says.{HasFields}
use Rattle.fix_outside.specs.declared.handing.Said.{Said}
use Rattle.fix_outside.specs.declared.outside.KeepFault.{KeepFault}
use Rattle.fix_outside.specs.Calls.{Call, Keep}
use Rattle.fix_stage.specs.declared.sender.Sender.{Sender}
use Rattle.fix_stage.specs.Sendings.{IsSending, IsServing}
use Rattle.fix_steps.specs.Steps.{hand_call}

-- A call that comes of sending entries that have Q, of serving a ResendRequest, or of handing over the message of this
-- frame, or that keeps a reset or that one was answered. What each call answered is left open
pub data IsAnswering (Q : Entry → Type 0) (frame : Option (List ℕ)) : Call → Type 0 where
  sends : {call : Call} → IsSending Q call → IsAnswering Q frame call
  serves : {call : Call} → IsServing call → IsAnswering Q frame call
  hands : (text : List ℕ) (fields : List Field) (said : Said) → frame ≡ Some text → HasFields text fields
      → IsAnswering Q frame (hand_call fields said)
  resets : (time : ℕ) (answer : Result ⊤ KeepFault) → IsAnswering Q frame (Keep (Reset time) answer)
  confirms : (answer : Result ⊤ KeepFault) → IsAnswering Q frame (Keep Confirm answer)

-- only such calls are made, and what is staged then has Q
pub record AnswersOnly (Q : Entry → Type 0) (frame : Option (List ℕ)) (calls : List Call) (to : Sender) : Type 0 where
  pub each : AllByRecursion (IsAnswering Q frame) calls
  pub staged : AllByRecursion Q to.stage.entries
