-- What the opening of a journal finds in its file, and does to it.
use Rattle.std.specs.Prelude.{◌≡◌, ◌≢◌, ◌⊎◌, ◌↔◌, ℕ, ◌+◌, ◌<◌, ◌≤◌, Bool, true, false, List, [], ◌∷◌, ◌++◌, length}
use Rattle.std.specs.Prelude.{take, drop, slice_index, Option, Some, None, IsSome, IfSome, Result, Ok, Err}
use Rattle.std.specs.Prelude.{OnOk, ⊤}
use Rattle.fix_base.specs.Trace.{Rises}
use Rattle.fix_disk.specs.Disk.{DiskSeen, Only, failures}
use Rattle.fix_disk.specs.Moments.{LeavesOnly, NeedsRoom}
use Rattle.fix_disk.specs.declared.disk.DiskFailed.{DiskFailed}
use Rattle.fix_journal.specs.declared.heads.Head.{Head}
use Rattle.fix_journal.specs.declared.heads.Head.TheVariants.{Closed, Record, Broken}
use Rattle.fix_journal.specs.declared.fault.OpenFault.{OpenFault}
use Rattle.fix_journal.specs.declared.fault.OpenFault.TheVariants.{DiskFault, Damaged, OutOfMemory}
use Rattle.fix_journal.specs.Journal.{JournalSeen, Holds, Lasts}
use Rattle.fix_journal.specs.declared.index.Index.{Index}
use Rattle.fix_journal.specs.Index.{IsIndexOf}
use Rattle.fix_journal.specs.declared.surveying.Kind.{Kind}
use Rattle.fix_journal.specs.declared.surveying.Kind.TheVariants.{Unmade, Named, Misnamed}
use Rattle.fix_journal.specs.Format.{OPEN, NAME, IsPayload, body_of, front, IsMade, IsJournal, HasRecords}
use Rattle.fix_journal.specs.Format.{HoldsNoRecord, Breaks, IsDamagedAt}
use Rattle.fix_journal.specs.AtRest.{IsAtRest}

-- of the bytes from a gate on
abbrev pub Judges : Head → List ℕ → Type 0
Judges Closed rest = slice_index rest 0 ≢ OPEN
Judges (Record size) rest = (payload : List ℕ) × IsPayload payload × (length payload ≡ size)
    × (rest ≡ OPEN ∷ (body_of payload ++ drop size (drop 5 rest)))
Judges Broken rest = (slice_index rest 0 ≡ OPEN) × HoldsNoRecord (drop 1 rest)

-- the record and the gate after it end within so many bytes
abbrev pub IsWithin : Head → ℕ → Type 0
IsWithin Closed left = ⊤
IsWithin (Record size) left = 5 + size < left
IsWithin Broken left = ⊤

-- calls that write nothing
pub record IsUntouched (old new : DiskSeen) : Type 0 where
  pub bytes : new.bytes ≡ old.bytes
  pub tells_images : new.TellsImages ↔ old.TellsImages
  pub images : old.TellsImages → (c : List ℕ) → new.image c → old.image c
  pub moments : LeavesOnly old new old.image

abbrev pub HasLength : Option (List ℕ) → ℕ → Type 0
HasLength told end = IfSome told (λ file. length file ≡ end)

-- a made file with the name in it
abbrev pub IsNamed : List ℕ → Type 0
IsNamed file = (10 ≤ length file) × (take 9 file ≡ OPEN ∷ NAME)

-- what comes of a walk over the records of a file
abbrev pub Scans : Result Index OpenFault → List ℕ → Type 0
Scans (Ok index) file = (payloads : List (List ℕ)) × IsJournal file payloads × IsIndexOf index payloads
Scans (Err DiskFault) file = ⊤
Scans (Err (Damaged place)) file = Breaks file place
Scans (Err OutOfMemory) file = ⊤

-- why there is no journal, if there is none
abbrev pub fault_of : {T : Type 0} → Result T OpenFault → Option OpenFault
fault_of (Ok x) = None
fault_of (Err fault) = Some fault

abbrev pub open_failures : Option OpenFault → ℕ
open_failures None = 0
open_failures (Some DiskFault) = 1
open_failures (Some (Damaged place)) = 0
open_failures (Some OutOfMemory) = 0

-- it has this, and a crash leaves just it
pub record Rests (seen : DiskSeen) (P : List ℕ → Type 0) : Type 0 where
  pub holds : IfSome seen.bytes P
  pub durable : seen.TellsImages → IfSome seen.bytes (λ file. Only file seen.image)

-- unmade, with a gate that is there
abbrev pub IsClosed : List ℕ → Type 0
IsClosed file = (1 ≤ length file) × (slice_index file 0 ≢ OPEN)

-- too short to be made
abbrev pub IsShort : List ℕ → Type 0
IsShort file = length file < 10

abbrev pub IsUnmadeBy : Bool → List ℕ → Type 0
IsUnmadeBy true file = IsShort file
IsUnmadeBy false file = IsClosed file

abbrev pub IsKind : Kind → List ℕ → Type 0
IsKind (Unmade is_short) file = IsUnmadeBy is_short file
IsKind (Named end) file = (length file ≡ end) × IsNamed file
IsKind Misnamed file = IsMade file × (take 8 (drop 1 file) ≢ NAME)

abbrev pub HasTen : Kind → Type 0
HasTen (Unmade is_short) = ⊤
HasTen (Named end) = 10 ≤ end
HasTen Misnamed = ⊤

-- what stands after the first ten bytes stays
abbrev pub KeepsBehind : Option (List ℕ) → Option (List ℕ) → Type 0
KeepsBehind old new = IfSome old (λ file. IfSome new (λ now. drop 10 now ≡ drop 10 file))

-- what the making of a journal does to a disk: a crash at any moment of it leaves an unmade file or a journal
-- without records
pub record Makes {T : Type 0} (answer : Result T DiskFailed) (old new : DiskSeen) : Type 0 where
  pub kept : OnOk answer (Rests new (λ file. IsJournal file []))
  pub behind : OnOk answer (KeepsBehind old.bytes new.bytes)
  pub tells_bytes : IsSome new.bytes ↔ IsSome old.bytes
  pub tells_images : new.TellsImages ↔ old.TellsImages
  pub any_moment : LeavesOnly old new (λ c. HasRecords c [])
  pub now : new.TellsImages → (c : List ℕ) → new.image c → HasRecords c []
  -- what is read after it, whatever was answered
  pub as_read : IfSome new.bytes (λ file. HasRecords file [])
  pub cause : Rises (failures answer) old.faults new.faults

-- the places that were found, of the file as it is read at first, and how it is then; the first place at which
-- it breaks the format
abbrev pub Finds : Result Index OpenFault → DiskSeen → List ℕ → Type 0
Finds (Ok index) new file = (payloads : List (List ℕ)) × HasRecords file payloads
    × IsAtRest new (length (front payloads)) payloads × IsIndexOf index payloads
Finds (Err DiskFault) new file = ⊤
Finds (Err (Damaged place)) new file = IsDamagedAt file place
Finds (Err OutOfMemory) new file = ⊤

-- what a crash may leave of a journal that is being opened: what it might have left before, and of an unmade
-- file one that is unmade or has no records
abbrev pub IsLeftByOpening : DiskSeen → List ℕ → Type 0
IsLeftByOpening old c = old.image c
    ⊎ (((file : List ℕ) × (old.bytes ≡ Some file) × (IsMade file → ⊥)) × HasRecords c [])

-- out of memory leaves the bytes as they are
abbrev pub StaysWithoutMemory : Option OpenFault → DiskSeen → DiskSeen → Type 0
StaysWithoutMemory None old new = ⊤
StaysWithoutMemory (Some DiskFault) old new = ⊤
StaysWithoutMemory (Some (Damaged place)) old new = ⊤
StaysWithoutMemory (Some OutOfMemory) old new = new.bytes ≡ old.bytes

-- what stands in an opened file after the first ten bytes stays
abbrev pub KeepsWhereOpened : Option OpenFault → DiskSeen → DiskSeen → Type 0
KeepsWhereOpened None old new = KeepsBehind old.bytes new.bytes
KeepsWhereOpened (Some fault) old new = ⊤

-- what an opening does to a disk
pub record Opens (fault : Option OpenFault) (old new : DiskSeen) : Type 0 where
  -- a made file stays as it is
  pub made_same : IfSome old.bytes (λ file. IsMade file → new.bytes ≡ old.bytes)
  pub refused_same : StaysWithoutMemory fault old new
  pub behind : KeepsWhereOpened fault old new
  pub any_moment : LeavesOnly old new (IsLeftByOpening old)
  pub now : new.TellsImages → (c : List ℕ) → new.image c → IsLeftByOpening old c
  -- what is read after it of an unmade file is unmade or has no records, whatever was answered
  pub as_read : IfSome old.bytes (λ file. (IsMade file → ⊥) → IfSome new.bytes (λ c. HasRecords c []))
  pub tells_bytes : IsSome new.bytes ↔ IsSome old.bytes
  pub tells_images : new.TellsImages ↔ old.TellsImages
  pub cause : Rises (open_failures fault) old.faults new.faults

-- a journal that was opened has the records of the file as it was read at first, and a crash leaves them
pub record IsOpened {D : Type 0} (disk : D → DiskSeen) (old : DiskSeen) (journal : JournalSeen D) : Type 0 where
  pub goes_on : journal.stopped ≡ false
  pub records : IfSome old.bytes
      (λ file. (payloads : List (List ℕ)) × HasRecords file payloads × (journal.count ≡ length payloads)
      × Holds (disk journal.disk) payloads × Lasts (disk journal.disk) payloads)

-- a file is damaged at the first place at which it breaks the format
abbrev pub IsCause : OpenFault → List ℕ → Type 0
IsCause DiskFault file = ⊤
IsCause (Damaged place) file = IsDamagedAt file place
IsCause OutOfMemory file = ⊤

-- what an opening needs of the room: ten bytes for a file that it makes, else none
pub record OpenRoom (fault : Option OpenFault) (old new : DiskSeen) : Type 0 where
  pub unmade : NeedsRoom (open_failures fault) 10 old new
  pub made : IfSome old.bytes (λ file. IsMade file → NeedsRoom (open_failures fault) 0 old new)
