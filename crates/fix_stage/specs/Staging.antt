-- Staging one message more: its number, room for it, and its entry with its frame.
use Rattle.std.specs.Prelude.{◌≡◌, ◌≤◌, ◌<◌, ℕ, List, [], true, false, Option, Some, None, Result, Ok, Err, ⊤}
use Rattle.fix_base.specs.declared.identity.Identity.{Identity}
use Rattle.fix_outside.specs.Calls.{Call}
use Rattle.fix_fields.specs.Drafted.{DraftText}
use Rattle.fix_stage.specs.Combine.{AndThen}
use Rattle.fix_stage.specs.Stage.{size_in_stage, has_room, with_entry}
use Rattle.fix_stage.specs.Sender.{Sender, StageFault, NumbersSpent, OutOfMemory, next_number, with_stage}
use Rattle.fix_stage.specs.Sender.{with_pending, staged_draft}
use Rattle.fix_stage.specs.Flush.{Flushed}
use Rattle.fix_stage.specs.Outgoing.{Outgoing, draft_outgoing, IsOutgoing, IsStagedFrame}

-- a message takes the next number. Where all are used, what is staged is flushed before that is answered
pub data Numbered (b : Sender) : List Call → Result ⊤ StageFault → Sender → Type 0 where
  has_number : next_number b ≤ 999999999 → Numbered b [] (Ok tt) b
  spent : {to : Sender} {calls : List Call} → 999999999 < next_number b → Flushed 0 b calls (Ok tt) to
      → Numbered b calls (Err NumbersSpent) to
  spent_fault : {to : Sender} {calls : List Call} {e : StageFault} → 999999999 < next_number b
      → Flushed 0 b calls (Err e) to → Numbered b calls (Err e) to

-- an entry that doesn't go into the same record is staged after a flush
pub data Roomy (size : ℕ) (b : Sender) : List Call → Result ⊤ StageFault → Sender → Type 0 where
  fits : has_room b.stage size ≡ true → Roomy size b [] (Ok tt) b
  full : {to : Sender} {calls : List Call} {r : Result ⊤ StageFault} → has_room b.stage size ≡ false
      → Flushed 0 b calls r to → Roomy size b calls r to

abbrev pub with_staged : Sender → Outgoing → Option (List ℕ) → Sender
with_staged b m frame = with_stage b (with_entry b.stage m.entry frame)

-- the entry is staged with its frame
pub data Put (id : Identity) (m : Outgoing) (b : Sender) : List Call → Result ⊤ StageFault → Sender → Type 0 where
  put : (frame : Option (List ℕ)) → IsOutgoing m → IsStagedFrame id (next_number b) m frame
      → Put id m b [] (Ok tt) (with_staged b m frame)
  put_memory : Put id m b [] (Err OutOfMemory) b

-- the message is staged under the next number
abbrev pub Staging : Identity → Outgoing → Sender → List Call → Result ⊤ StageFault → Sender → Type 0
Staging id m = AndThen Numbered (AndThen (Roomy (size_in_stage m.entry)) (Put id m))

-- ---- drafts of the application

-- a message is staged, whose entry is made first
pub data MakesAndStages (id : Identity) (m : Outgoing) (b : Sender) : List Call → Result ⊤ StageFault → Sender
    → Type 0 where
  made : {calls : List Call} {r : Result ⊤ StageFault} {to : Sender} → Staging id m b calls r to
      → MakesAndStages id m b calls r to
  -- out of memory for what is kept of it
  not_made : MakesAndStages id m b [] (Err OutOfMemory) b

-- the draft in hand is staged, if there is one. It stays in hand until the record that has its entry is kept
pub data StagesPending (id : Identity) (b : Sender) : List Call → Result ⊤ StageFault → Sender → Type 0 where
  empty : b.pending.draft ≡ None → StagesPending id b [] (Ok tt) b
  not_staged : {calls : List Call} {e : StageFault} {to : Sender} (d : DraftText) → b.pending.draft ≡ Some d
      → MakesAndStages id (draft_outgoing b.numbers.reading d true) b calls (Err e) to
      → StagesPending id b calls (Err e) to
  -- out of memory for a copy of it
  draft_memory : (d : DraftText) → b.pending.draft ≡ Some d → StagesPending id b [] (Err OutOfMemory) b
  draft_staged : {calls : List Call} {to : Sender} (d : DraftText) → b.pending.draft ≡ Some d
      → MakesAndStages id (draft_outgoing b.numbers.reading d true) b calls (Ok tt) to
      → StagesPending id b calls (Ok tt) (with_pending to (staged_draft to.pending))
