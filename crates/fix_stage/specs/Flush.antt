-- Keeping what is staged as one record, and then writing its frames.
use Rattle.std.specs.Prelude.{◌≡◌, ◌≤◌, ◌==◌, ◌&&◌, not, if◌then◌else◌, ℕ, List, [], ◌∷◌, ◌++◌, length}
use Rattle.std.specs.Prelude.{Bool, true, false, Option, Some, None, Result, Ok, Err, ⊤}
use Rattle.std.specs.List.{AllByRecursion}
use Rattle.fix_base.specs.declared.entry.Entry.{Entry}
use Rattle.fix_base.specs.declared.entry.Record.{Record}
use Rattle.fix_base.specs.declared.entry.Record.TheVariants.{Push, Expect, Many}
use Rattle.fix_base.specs.Payload.{HasPayload, LONGEST_PAYLOAD}
use Rattle.fix_outside.specs.declared.connection.WriteTurn.TheVariants as write
use Rattle.fix_outside.specs.declared.outside.KeepFault.TheVariants as keep
use Rattle.fix_outside.specs.Calls.{Call, Keep, Write}
use Rattle.fix_stage.specs.Combine.{Each}
use Rattle.fix_stage.specs.Stage.{staged_size, is_something}
use Rattle.fix_stage.specs.Sender.{Sender, StageFault, NumbersSpent, OutOfMemory, StoreFault, LinkFault}
use Rattle.fix_stage.specs.Sender.{with_pending, numbers_kept}
use Rattle.fix_stage.specs.Sender.{kept_draft, lost_draft, unstaged_draft, emptied, due_number}

-- One entry alone with nothing to expect is kept as Push, nothing but the expected number as Expect, and all else
-- as Many. The expected number is 0 where there is none to keep
abbrev pub record_of : List Entry → ℕ → Record
record_of [] expect = Expect expect
record_of (e ∷ []) expect = if expect == 0 then Push e else Many (e ∷ []) expect
record_of (e ∷ f ∷ es) expect = Many (e ∷ f ∷ es) expect

-- there is something to keep
abbrev pub is_due : Sender → ℕ → Bool
is_due b expect = is_something b.stage expect

-- these entries may be kept with this number
pub record CanKeep (entries : List Entry) (expect : ℕ) : Type 0 where
  pub due : not (length entries == 0 && expect == 0) ≡ true
  pub few : length entries ≤ 64
  pub each : AllByRecursion HasPayload entries
  pub fits : staged_size entries ≤ LONGEST_PAYLOAD
  pub bound : expect ≤ 1000000000

-- so many entries are kept, and the expected number
abbrev pub sender_kept : Sender → ℕ → ℕ → Sender
sender_kept b count expect = record {
  numbers = numbers_kept b.numbers count expect;
  stage = b.stage;
  pending = kept_draft b.pending;
}

-- one record of these entries is kept
pub data Keeping (entries : List Entry) (expect : ℕ) (b : Sender) : List Call → Result ⊤ StageFault → Sender
    → Type 0 where
  kept : Keeping entries expect b (Keep (record_of entries expect) (Ok tt) ∷ []) (Ok tt)
      (sender_kept b (length entries) expect)
  keep_lost : Keeping entries expect b (Keep (record_of entries expect) (Err keep.Failed) ∷ []) (Err StoreFault)
      (with_pending b (lost_draft b.pending))
  keep_memory : Keeping entries expect b (Keep (record_of entries expect) (Err keep.OutOfMemory) ∷ [])
      (Err OutOfMemory) (with_pending b (unstaged_draft b.pending))

-- one frame is written, where there is one
pub data WroteOne (u : ⊤) : Option (List ℕ) → List Call → Result ⊤ StageFault → ⊤ → Type 0 where
  no_frame : WroteOne u None [] (Ok tt) u
  wrote : (frame : List ℕ) → WroteOne u (Some frame) (Write frame write.Done ∷ []) (Ok tt) u
  write_lost : (frame : List ℕ) (sent : ℕ) → WroteOne u (Some frame) (Write frame (write.Failed sent) ∷ [])
      (Err LinkFault) u
  write_memory : (frame : List ℕ) → WroteOne u (Some frame) (Write frame write.OutOfMemory ∷ []) (Err OutOfMemory) u

-- All that is staged is kept as one record, with the expected number where it isn't 0, and then the frames go out in
-- their order, one write each. Nothing is staged after it
pub data Flushed (expect : ℕ) (b : Sender) : List Call → Result ⊤ StageFault → Sender → Type 0 where
  nothing_due : is_due b expect ≡ false → Flushed expect b [] (Ok tt) (emptied b)
  not_kept : {to : Sender} {calls : List Call} {e : StageFault} → is_due b expect ≡ true
      → Keeping b.stage.entries expect (emptied b) calls (Err e) to → Flushed expect b calls (Err e) to
  kept_and_written : {to : Sender} {first more : List Call} {r : Result ⊤ StageFault} → is_due b expect ≡ true
      → Keeping b.stage.entries expect (emptied b) first (Ok tt) to → Each WroteOne tt b.stage.frames more r tt
      → Flushed expect b (first ++ more) r to

-- at the end of a turn: the expected number is kept with what is staged, where it changed
abbrev pub Settled : Sender → List Call → Result ⊤ StageFault → Sender → Type 0
Settled b = Flushed (due_number b.numbers) b

-- after it the expected number is the one that is kept, unless the record was not kept
abbrev pub IsSettled : Result ⊤ StageFault → Sender → Type 0
IsSettled (Ok x) b = b.numbers.stored_expected ≡ b.numbers.expected
IsSettled (Err NumbersSpent) b = ⊤
IsSettled (Err OutOfMemory) b = ⊤
IsSettled (Err StoreFault) b = ⊤
IsSettled (Err LinkFault) b = b.numbers.stored_expected ≡ b.numbers.expected
