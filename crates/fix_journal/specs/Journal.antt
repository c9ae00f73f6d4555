-- What is seen of a journal, and what its calls do.
use Rattle.std.specs.Prelude.{◌≡◌, ◌↔◌, ℕ, ◌+◌, ◌<◌, ◌≤◌, Bool, true, false, List, [], ◌∷◌, ◌++◌, length, slice_get}
use Rattle.std.specs.Prelude.{Some, IsSome, IfSome, Result, Ok, Err, OnOk}
use Rattle.fix_base.specs.Trace.{Rises}
use Rattle.fix_disk.specs.Disk.{DiskSeen, LeavesAsIs}
use Rattle.fix_disk.specs.Moments.{LeavesOnly}
use Rattle.fix_journal.specs.declared.fault.AppendFault.{AppendFault}
use Rattle.fix_journal.specs.declared.fault.AppendFault.TheVariants as append
use Rattle.fix_journal.specs.declared.fault.ReadFault.{ReadFault}
use Rattle.fix_journal.specs.declared.fault.ReadFault.TheVariants as read
use Rattle.fix_journal.specs.Format.{MOST_PAYLOAD, front, IsJournal}
use Rattle.fix_journal.specs.AtRest.{IsAtRest, IsEither}
use Rattle.fix_journal.specs.declared.index.Index.{Index}
use Rattle.fix_journal.specs.Index.{IsShaped, IsIndexOf}

-- over a disk of type D
pub record JournalSeen (D : Type 0) : Type 0 where
  pub disk : D
  pub count : ℕ  -- how many records there are
  pub stopped : Bool  -- the disk failed at some call

-- while the disk hasn't failed, and where it tells its bytes, its file has records, is on the disk, and the
-- places that are kept are theirs
pub record IsSound (seen : DiskSeen) (index : Index) (stopped : Bool) : Type 0 where
  pub shaped : IsShaped index
  pub rests : stopped ≡ false → IsSome seen.bytes → (payloads : List (List ℕ))
      × IsAtRest seen (length (front payloads)) payloads × IsIndexOf index payloads

-- the disk tells a file with these records
abbrev pub Holds : DiskSeen → List (List ℕ) → Type 0
Holds seen payloads = (file : List ℕ) × (seen.bytes ≡ Some file) × IsJournal file payloads

-- a crash leaves a file with these records
abbrev pub Lasts : DiskSeen → List (List ℕ) → Type 0
Lasts seen payloads = seen.TellsImages → (c : List ℕ) → seen.image c → IsJournal c payloads

-- when each answer comes, of a payload of so many bytes, and what the journal is then
abbrev pub AppendAnswers : {D : Type 0} → Result ℕ AppendFault → ℕ → JournalSeen D → JournalSeen D → Type 0
AppendAnswers (Ok index) size old new = (old.stopped ≡ false) × (size ≤ MOST_PAYLOAD) × (index ≡ old.count)
    × (new.count ≡ old.count + 1) × (new.stopped ≡ false)
AppendAnswers (Err append.Stopped) size old new = (old.stopped ≡ true) × (new ≡ old)
AppendAnswers (Err append.TooLong) size old new = (old.stopped ≡ false) × (MOST_PAYLOAD < size) × (new ≡ old)
AppendAnswers (Err append.OutOfMemory) size old new = (old.stopped ≡ false) × (size ≤ MOST_PAYLOAD) × (new ≡ old)
AppendAnswers (Err append.DiskFault) size old new = (old.stopped ≡ false) × (size ≤ MOST_PAYLOAD)
    × (new.count ≡ old.count) × (new.stopped ≡ true)

abbrev pub append_failures : Result ℕ AppendFault → ℕ
append_failures (Ok index) = 0
append_failures (Err append.Stopped) = 0
append_failures (Err append.TooLong) = 0
append_failures (Err append.OutOfMemory) = 0
append_failures (Err append.DiskFault) = 1

-- what an append does to the disk of a journal that isn't stopped
pub record JournalAppends (answer : Result ℕ AppendFault) (payload : List ℕ) (old new : DiskSeen) : Type 0 where
  -- an acknowledged record is there, and is in whatever a crash leaves
  pub kept : OnOk answer ((payloads : List (List ℕ)) → Holds old payloads → Holds new (payloads ++ payload ∷ [])
      × Lasts new (payloads ++ payload ∷ []))
  -- a crash at any moment of it leaves the records from before, or those and the new one
  pub any_moment : (payloads : List (List ℕ)) → Holds old payloads → LeavesOnly old new (IsEither payloads payload)
  -- and so does a crash after it
  pub now : (payloads : List (List ℕ)) → Holds old payloads → new.TellsImages → (c : List ℕ) → new.image c
      → IsEither payloads payload c
  -- what is read then has these or those, whatever was answered
  pub as_read : (payloads : List (List ℕ)) → Holds old payloads → IfSome new.bytes (IsEither payloads payload)
  pub tells_bytes : IsSome new.bytes ↔ IsSome old.bytes
  pub tells_images : new.TellsImages ↔ old.TellsImages
  pub cause : Rises (append_failures answer) old.faults new.faults
  pub calls : IsSome old.bytes → new.clock ≤ old.clock + 4

-- when each answer comes, and what the journal is then
abbrev pub ReadAnswers : {T D : Type 0} → Result T ReadFault → JournalSeen D → JournalSeen D → Type 0
ReadAnswers (Ok x) old new = (old.stopped ≡ false) × (new.count ≡ old.count) × (new.stopped ≡ false)
ReadAnswers (Err read.Stopped) old new = (old.stopped ≡ true) × (new ≡ old)
ReadAnswers (Err read.OutOfMemory) old new = (old.stopped ≡ false) × (new ≡ old)
ReadAnswers (Err read.DiskFault) old new = (old.stopped ≡ false) × (new.count ≡ old.count) × (new.stopped ≡ true)

abbrev pub read_failures : {T : Type 0} → Result T ReadFault → ℕ
read_failures (Ok x) = 0
read_failures (Err read.Stopped) = 0
read_failures (Err read.OutOfMemory) = 0
read_failures (Err read.DiskFault) = 1

-- what a read of the record of this index gives, and does to the disk: at most 63 looks at the records between the
-- mark and it, and two reads
pub record JournalReads {T : Type 0} (answer : Result T ReadFault) (index : ℕ) (into : List ℕ)
    (old new : DiskSeen) : Type 0 where
  pub read : OnOk answer ((payloads : List (List ℕ)) → Holds old payloads → slice_get payloads index ≡ Some into)
  pub same : LeavesAsIs old new
  -- a crash at any moment of it leaves what one had left before
  pub any_moment : LeavesOnly old new old.image
  pub tells_images : new.TellsImages ↔ old.TellsImages
  pub cause : Rises (read_failures answer) old.faults new.faults
  pub calls : IsSome old.bytes → new.clock ≤ old.clock + 65
