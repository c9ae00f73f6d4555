-- Where the entry of a number stands among a store's records.
use Rattle.std.specs.Prelude.{◌≡◌, ◌⊎◌, ℕ, ◌+◌, ◌-◌, ◌<◌, ◌≤◌, true, List, ◌++◌, length, map, slice_get, Option}
use Rattle.std.specs.Prelude.{Some, None, Result, Ok, Err}
use Rattle.fix_base.specs.declared.entry.Entry.{Entry}
use Rattle.fix_base.specs.End.{IsEntry}
use Rattle.fix_journal.specs.declared.fault.ReadFault.{ReadFault}
use Rattle.fix_journal.specs.declared.fault.ReadFault.TheVariants as read
use Rattle.fix_journal.specs.Journal.{JournalSeen}
use Rattle.fix_journal.specs.Cursors.{Stands}
use Rattle.fix_disk.specs.Disk.{DiskSeen}
use Rattle.fix_store.specs.declared.finding.Spot.{Spot}
use Rattle.fix_store.specs.declared.finding.Found.{Found}
use Rattle.fix_store.specs.Spelling.{Item, spelled_item}
use Rattle.fix_store.specs.Reading.{new_content, MayAllFollow}
use Rattle.fix_store.specs.Folding.{IsFit, pushes_of, pushed, entries_before, GoesOn}

-- the first payloads of a journal with so many are these items
pub record StandFirst (count : ℕ) (payloads : List (List ℕ)) (items : List Item) : Type 0 where
  pub later : List (List ℕ)
  pub is : payloads ≡ map spelled_item items ++ later
  pub few : length items ≤ count
  pub each : MayAllFollow new_content items

-- the payload is of an item, of whose entries the one with so many before it is this
pub record IsPart (payload : List ℕ) (nth : ℕ) (entry : Entry) : Type 0 where
  pub item : Item
  pub fit : IsFit item
  pub is : payload ≡ spelled_item item
  pub there : slice_get (pushes_of item) nth ≡ Some entry

-- an entry that has so many before it in all was found, in the record whose payload this is
pub record IsAt (items : List Item) (target : ℕ) (payload : List ℕ) (f : Found) : Type 0 where
  pub entry : Entry
  pub at : slice_get (pushed items) target ≡ Some entry
  pub part : IsPart payload f.nth entry
  pub from : entries_before items f.at.cursor.index ≤ target
  pub to : target < entries_before items (f.at.cursor.index + 1)

-- the entry of this number, of these that are left, is one of the item of this index
pub record StandsIn (items : List Item) (out : List Entry) (number index : ℕ) : Type 0 where
  pub front : List Entry
  pub is : pushed items ≡ front ++ out
  pub from : entries_before items index ≤ length front + (number - 1)
  pub to : length front + (number - 1) < entries_before items (index + 1)

-- the entry of this number was found
pub record IsFoundAt (items : List Item) (out : List Entry) (number : ℕ) (payload : List ℕ) (f : Found) : Type 0 where
  pub entry : Entry
  pub at : IsEntry out number entry
  pub part : IsPart payload f.nth entry
  pub stands : StandsIn items out number f.at.cursor.index

-- a journal in which records were looked for
abbrev pub Sought : {T D : Type 0} → Result T ReadFault → JournalSeen D → JournalSeen D → Type 0
Sought (Ok x) old new = GoesOn old new
Sought (Err read.Stopped) old new = ⊥
Sought (Err read.OutOfMemory) old new = GoesOn old new
Sought (Err read.DiskFault) old new = (new.count ≡ old.count) × (new.stopped ≡ true)

-- a cursor at a record of a journal, or after the last
pub record IsSpotOn {D : Type 0} (disk : D → DiskSeen) (journal : JournalSeen D) (s : Spot) : Type 0 where
  pub within : s.cursor.index ≤ journal.count
  pub stands : Stands disk journal s.cursor

pub record AreSpotsOn {D : Type 0} (disk : D → DiskSeen) (journal : JournalSeen D) (f : Found) : Type 0 where
  pub at : IsSpotOn disk journal f.at
  pub after : IsSpotOn disk journal f.after

-- so many entries of these items stand before it
pub record IsSpotOf (items : List Item) (s : Spot) : Type 0 where
  pub within : s.cursor.index ≤ length items
  pub before : s.before ≡ entries_before items s.cursor.index

pub record AreSpotsOf (items : List Item) (f : Found) : Type 0 where
  pub at : IsSpotOf items f.at
  pub after : IsSpotOf items f.after
  pub next : f.after.cursor.index ≡ f.at.cursor.index + 1

-- it is one of these
abbrev pub IsOneOf : Spot → Option Found → Spot → Type 0
IsOneOf marked near s = (s ≡ marked) ⊎ ((f : Found) × (near ≡ Some f) × ((s ≡ f.at) ⊎ (s ≡ f.after)))

-- it is one of two, and stands before neither
pub record IsLater (a b s : Spot) : Type 0 where
  pub is : (s ≡ a) ⊎ (s ≡ b)
  pub one : a.cursor.index ≤ s.cursor.index
  pub other : b.cursor.index ≤ s.cursor.index

-- a record from which the one with so many entries before it is looked for
pub record IsNearest (marked : Spot) (near : Option Found) (target : ℕ) (s : Spot) : Type 0 where
  pub one : IsOneOf marked near s
  pub before : s.before ≤ target
  pub order : marked.cursor.index ≤ s.cursor.index
  -- no record from which it can be reached stands after it
  pub after : (f : Found) → near ≡ Some f → f.after.before ≤ target → f.after.cursor.index ≤ s.cursor.index
  pub at : (f : Found) → near ≡ Some f → target < f.after.before → f.at.before ≤ target
      → f.at.cursor.index ≤ s.cursor.index

-- where the entry that was read last was found
abbrev pub index_in : Option Found → Option ℕ
index_in None = None
index_in (Some f) = Some f.at.cursor.index
