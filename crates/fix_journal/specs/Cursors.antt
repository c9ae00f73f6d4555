-- Where a cursor stands among the records of a journal, what is seen of a record before it is read, and what the
-- calls with cursors do.
use Rattle.std.specs.Prelude.{◌≡◌, ◌↔◌, ℕ, ◌+◌, ◌<◌, ◌≤◌, min, false, List, [], ◌∷◌, ◌++◌, length, take, drop}
use Rattle.std.specs.Prelude.{slice_get, slice_index, Some, IsSome, Result, Ok, Err, ⊤}
use Rattle.std.specs.Int.{w32, to_be_bytes}
use Rattle.fix_base.specs.Trace.{Rises}
use Rattle.fix_disk.specs.Disk.{DiskSeen, LeavesAsIs}
use Rattle.fix_disk.specs.Moments.{LeavesOnly}
use Rattle.fix_journal.specs.declared.cursor.Peek.{Peek}
use Rattle.fix_journal.specs.declared.fault.ReadFault.{ReadFault}
use Rattle.fix_journal.specs.declared.fault.ReadFault.TheVariants.{Stopped, OutOfMemory, DiskFault}
use Rattle.fix_journal.specs.Format.{OPEN, IsPayload, body_of, front}
use Rattle.fix_journal.specs.Journal.{JournalSeen, Holds}

-- the index of a record, and the place of its gate in the file
pub record CursorSeen : Type 0 where
  pub index : ℕ
  pub place : ℕ

-- where the journal isn't stopped and its disk tells these records, it is at the gate of the record of its
-- index; after the last record, at the closed gate
abbrev pub Stands : {D : Type 0} → (D → DiskSeen) → JournalSeen D → CursorSeen → Type 0
Stands disk journal c = journal.stopped ≡ false → (payloads : List (List ℕ)) → Holds (disk journal.disk) payloads
    → c.place ≡ length (front (take c.index payloads))

-- the first five bytes, filled up with 0
abbrev pub head_of : List ℕ → List ℕ
head_of payload = slice_index payload 0 ∷ slice_index payload 1 ∷ slice_index payload 2 ∷ slice_index payload 3
    ∷ slice_index payload 4 ∷ []

abbrev pub Shows : Peek → List ℕ → Type 0
Shows p payload = (p.length ≡ length payload) × (p.head ≡ head_of payload)

-- it shows the record at a cursor
abbrev pub IsPeek : {D : Type 0} → (D → DiskSeen) → JournalSeen D → CursorSeen → Peek → Type 0
IsPeek disk journal c p = journal.stopped ≡ false → (payloads : List (List ℕ)) → Holds (disk journal.disk) payloads
    → (payload : List ℕ) × (slice_get payloads c.index ≡ Some payload) × Shows p payload

-- it is the payload of this index
abbrev pub Gives : DiskSeen → ℕ → List ℕ → Type 0
Gives seen index into = (payloads : List (List ℕ)) → Holds seen payloads → slice_get payloads index ≡ Some into

-- calls that write nothing, at most so many
pub record ReadsFile (failed most : ℕ) (old new : DiskSeen) : Type 0 where
  pub same : LeavesAsIs old new
  -- a crash at any moment of them leaves what one had left before
  pub any_moment : LeavesOnly old new old.image
  pub tells_images : new.TellsImages ↔ old.TellsImages
  pub cause : Rises failed old.faults new.faults
  pub calls : IsSome old.bytes → new.clock ≤ old.clock + most

-- a payload that the first read of its record has whole
abbrev pub MOST_AT_ONCE : ℕ
MOST_AT_ONCE = 4091

-- where the payload of this index is no longer than that, one call
abbrev pub IsShortRead : ℕ → DiskSeen → DiskSeen → Type 0
IsShortRead index old new = (payloads : List (List ℕ)) (payload : List ℕ) → Holds old payloads
    → slice_get payloads index ≡ Some payload → length payload ≤ MOST_AT_ONCE → new.clock ≤ old.clock + 1

-- no memory was wanted
abbrev pub TakesNoMemory : {T : Type 0} → Result T ReadFault → Type 0
TakesNoMemory (Ok x) = ⊤
TakesNoMemory (Err Stopped) = ⊤
TakesNoMemory (Err OutOfMemory) = ⊥
TakesNoMemory (Err DiskFault) = ⊤

-- a record with this payload stands at a place of a file, and ends at or before another, where there is a byte
pub record Lies (file : List ℕ) (place limit : ℕ) (payload : List ℕ) : Type 0 where
  pub later : List ℕ
  pub is : drop place file ≡ OPEN ∷ (body_of payload ++ later)
  pub fits : IsPayload payload
  pub within : place + 5 + length payload ≤ limit
  pub inside : limit < length file

-- the bytes from a gate on, of which there are enough to show the record
pub record Begins (head payload : List ℕ) : Type 0 where
  pub long : 5 + min 5 (length payload) ≤ length head
  pub size : take 5 head ≡ OPEN ∷ to_be_bytes w32 (length payload)
  pub each : (i : ℕ) → i < 5 → i < length payload → slice_index head (5 + i) ≡ slice_index payload i
