-- What a store keeps in memory of its records, and how a walk over the records makes it.
use Rattle.std.specs.Prelude.{◌≡◌, ◌↔◌, ℕ, ◌+◌, ◌*◌, ◌/◌, ◌<◌, ◌≤◌, ◌==◌, if◌then◌else◌, Bool, true, false}
use Rattle.std.specs.Prelude.{List, [], ◌∷◌, ◌++◌, length, take, map}
use Rattle.std.specs.Prelude.{slice_get, Option, IfSome, Some, None, Result, Ok, Err, ⊤}
use Rattle.std.specs.FinSet as set
use Rattle.fix_base.specs.declared.entry.Entry.{Entry}
use Rattle.fix_base.specs.declared.entry.Record.{Record}
use Rattle.fix_base.specs.declared.entry.Entry.TheVariants.{App, Admin}
use Rattle.fix_base.specs.declared.entry.Record.TheVariants.{Push, Expect, Many, Withhold, Reset, ResetAsk, Confirm}
use Rattle.fix_base.specs.End.{End, IsAppAt}
use Rattle.std.specs.List.{AllByRecursion}
use Rattle.fix_base.specs.Payload.{HasPayload, IsKeepable, LAST_TIME}
use Rattle.fix_base.specs.Trace.{Rises}
use Rattle.fix_base.specs.declared.entry.Stored.{Stored}
use Rattle.fix_disk.specs.Disk.{DiskSeen, LeavesAsIs}
use Rattle.fix_disk.specs.Moments.{LeavesOnly, NeedsRoom}
use Rattle.fix_journal.specs.declared.fault.OpenFault.{OpenFault}
use Rattle.fix_journal.specs.declared.fault.OpenFault.TheVariants as open_fault
use Rattle.fix_journal.specs.Format.{front}
use Rattle.fix_journal.specs.Journal.{JournalSeen, Holds, Lasts}
use Rattle.fix_store.specs.declared.folding.Folded.{Folded}
use Rattle.fix_store.specs.declared.changing.Change.{Change}
use Rattle.fix_store.specs.declared.changing.Change.TheVariants as change
use Rattle.fix_store.specs.declared.entries.LentEntry.{LentEntry}
use Rattle.fix_store.specs.declared.entries.LentEntry.TheVariants as lent
use Rattle.fix_store.specs.declared.withheld.Withheld.{Withheld}
use Rattle.fix_store.specs.declared.reading.Spelt.{Spelt}
use Rattle.fix_store.specs.declared.reading.Spelt.TheVariants as spelt
use Rattle.fix_store.specs.declared.spelling.Kept.{Kept}
use Rattle.fix_store.specs.declared.spelling.Kept.TheVariants as kept
use Rattle.fix_store.specs.Spelling.{Item, keeps, marks, spelled_item, spelled_entries}
use Rattle.fix_store.specs.Reading.{LAST_NUMBER, new_content, taken_all, MayFollow, MayAllFollow}
use Rattle.fix_store.specs.Ends.{entries_in}
use Rattle.fix_store.specs.Store.{NumberSet, stored_of, withheld_of}
use Rattle.fix_store.specs.Counts.{Counted, counted_in, none_counted, counted_with, HasRoomToCount, IsCounted}

-- an entry whose body is lent
abbrev pub lent_entry : LentEntry → Entry
lent_entry (lent.App time by body) = App time by body.now
lent_entry (lent.Admin time kind about) = Admin time kind about

-- the payloads of so many entries, each after its length
pub record AreEntries (count : ℕ) (bytes : List ℕ) : Type 0 where
  pub entries : List Entry
  pub many : length entries ≡ count
  pub each : AllByRecursion HasPayload entries
  pub is : bytes ≡ spelled_entries entries

-- how many entries a record of several may have, with this expected number or 0
pub record HasManyCounts (count number : ℕ) : Type 0 where
  pub some : 1 ≤ count
  pub few : count ≤ 64
  pub two : number ≡ 0 → 2 ≤ count
  pub fits : number ≤ 1000000000

-- an item whose bytes are lent
abbrev pub item_of : Spelt → Item
item_of (spelt.App time by body) = keeps (Push (App time by body.now))
item_of (spelt.Admin time kind about) = keeps (Push (Admin time kind about))
item_of (spelt.Many count number entries) = keeps (Many (entries_in count entries.now) number)
item_of (spelt.Expect number) = keeps (Expect number)
item_of (spelt.Withhold number) = keeps (Withhold number)
item_of (spelt.Reset time) = keeps (Reset time)
item_of (spelt.ResetAsk time) = keeps (ResetAsk time)
item_of spelt.Confirm = keeps Confirm
item_of spelt.Mark = marks

-- a record that is lent
abbrev pub record_of : Kept → Record
record_of (kept.Push entry) = Push entry.now
record_of (kept.Many pushes number) = Many pushes.now number
record_of (kept.Expect number) = Expect number
record_of (kept.Withhold number) = Withhold number
record_of (kept.Reset time) = Reset time
record_of (kept.ResetAsk time) = ResetAsk time
record_of kept.Confirm = Confirm

-- an item that may stand somewhere in a file
abbrev pub IsFit : Item → Type 0
IsFit (keeps r) = IsKeepable r
IsFit marks = ⊤

-- the entries of an item
abbrev pub pushes_of : Item → List Entry
pushes_of (keeps (Push entry)) = entry ∷ []
pushes_of (keeps (Many pushes number)) = pushes
pushes_of (keeps (Expect number)) = []
pushes_of (keeps (Withhold number)) = []
pushes_of (keeps (Reset time)) = []
pushes_of (keeps (ResetAsk time)) = []
pushes_of (keeps Confirm) = []
pushes_of marks = []

-- what it changes in memory
abbrev pub change_of : Item → Change
change_of (keeps (Push entry)) = change.Entries 1 0
change_of (keeps (Many pushes number)) = change.Entries (length pushes) number
change_of (keeps (Expect number)) = change.Expect number
change_of (keeps (Withhold number)) = change.Withhold number
change_of (keeps (Reset time)) = change.Reset time
change_of (keeps (ResetAsk time)) = change.ResetAsk time
change_of (keeps Confirm) = change.Confirm
change_of marks = change.Mark

-- how many entries the records have, the expected number, the last reset, whether one is asked for, which
-- messages are withheld, and whether the file is marked
pub record Fold : Type 0 where
  pub counts : Counted
  pub expected : ℕ
  pub since : Option ℕ
  pub asked : Bool
  pub withheld : NumberSet
  pub marked : Bool

-- the number that was withheld last is kept apart
abbrev pub with_last : Option ℕ → NumberSet → NumberSet
with_last None s = s
with_last (Some n) s = set.insert s n

abbrev pub withheld_in : Withheld → NumberSet
withheld_in w = with_last w.last (set.from_list w.numbers.keys)

abbrev pub fold_of : Folded → Fold
fold_of f = record {
  counts = counted_in f.counts;
  expected = f.expected;
  since = f.since;
  asked = f.asked;
  withheld = withheld_in f.withheld;
  marked = f.marked;
}

abbrev pub new_fold : Fold
new_fold = record {
  counts = none_counted;
  expected = 1;
  since = None;
  asked = false;
  withheld = set.empty;
  marked = false;
}

-- the number that is expected then, where it isn't 0
abbrev pub expected_then : ℕ → ℕ → ℕ
expected_then old number = if number == 0 then old else number

-- after what stands at this index
abbrev pub fold_with : ℕ → Fold → Change → Fold
fold_with index f (change.Entries count number) = record {
  counts = counted_with index f.counts (f.counts.total + count) (f.counts.last + count);
  expected = expected_then f.expected number;
  since = f.since;
  asked = f.asked;
  withheld = f.withheld;
  marked = f.marked;
}
fold_with index f (change.Expect number) = record {
  counts = counted_with index f.counts f.counts.total f.counts.last;
  expected = number;
  since = f.since;
  asked = f.asked;
  withheld = f.withheld;
  marked = f.marked;
}
fold_with index f (change.Withhold number) = record {
  counts = counted_with index f.counts f.counts.total f.counts.last;
  expected = f.expected;
  since = f.since;
  asked = f.asked;
  withheld = set.insert f.withheld number;
  marked = f.marked;
}
fold_with index f (change.Reset time) = record {
  counts = counted_with index f.counts f.counts.total 0;
  expected = 1;
  since = Some time;
  asked = f.asked;
  withheld = set.empty;
  marked = f.marked;
}
fold_with index f (change.ResetAsk time) = record {
  counts = counted_with index f.counts f.counts.total 0;
  expected = 1;
  since = Some time;
  asked = true;
  withheld = set.empty;
  marked = f.marked;
}
fold_with index f change.Confirm = record {
  counts = counted_with index f.counts f.counts.total f.counts.last;
  expected = f.expected;
  since = f.since;
  asked = false;
  withheld = f.withheld;
  marked = f.marked;
}
fold_with index f change.Mark = record {
  counts = counted_with index f.counts f.counts.total f.counts.last;
  expected = f.expected;
  since = f.since;
  asked = f.asked;
  withheld = f.withheld;
  marked = true;
}

abbrev pub stored_in : Fold → Stored
stored_in f = record { last = f.counts.last; expected = f.expected; since = f.since; asked = f.asked }

-- it may come next, as far as what is in memory tells
abbrev pub MayTake : Fold → Change → Type 0
MayTake f (change.Entries count number) = f.counts.last + count ≤ LAST_NUMBER
MayTake f (change.Expect number) = ⊤
MayTake f (change.Withhold number) = number ≤ f.counts.last
MayTake f (change.Reset time) = ⊤
MayTake f (change.ResetAsk time) = f.marked ≡ true
MayTake f change.Confirm = f.marked ≡ true
MayTake f change.Mark = f.marked ≡ false

-- a number that is withheld is one of a store that tells this
abbrev pub HasPlaceIn : Stored → Record → Type 0
HasPlaceIn s (Push entry) = ⊤
HasPlaceIn s (Expect number) = ⊤
HasPlaceIn s (Many pushes number) = ⊤
HasPlaceIn s (Withhold number) = number ≤ s.last
HasPlaceIn s (Reset time) = ⊤
HasPlaceIn s (ResetAsk time) = ⊤
HasPlaceIn s Confirm = ⊤

-- it can be taken in without memory
abbrev pub HasRoomFor : Folded → Change → Type 0
HasRoomFor f (change.Entries count number) = HasRoomToCount f.counts count
HasRoomFor f (change.Expect number) = HasRoomToCount f.counts 0
HasRoomFor f (change.Withhold number) = HasRoomToCount f.counts 0 × (f.withheld.last ≡ None)
HasRoomFor f (change.Reset time) = HasRoomToCount f.counts 0
HasRoomFor f (change.ResetAsk time) = HasRoomToCount f.counts 0
HasRoomFor f change.Confirm = HasRoomToCount f.counts 0
HasRoomFor f change.Mark = HasRoomToCount f.counts 0

-- a number that is withheld is one of an application message
abbrev pub NamesApp : Change → End → Type 0
NamesApp (change.Entries count number) e = ⊤
NamesApp (change.Expect number) e = ⊤
NamesApp (change.Withhold number) e = (body : List ℕ) × IsAppAt e.out number body
NamesApp (change.Reset time) e = ⊤
NamesApp (change.ResetAsk time) e = ⊤
NamesApp change.Confirm e = ⊤
NamesApp change.Mark e = ⊤

abbrev pub IsApp : Entry → Type 0
IsApp (App time by body) = ⊤
IsApp (Admin time kind about) = ⊥

-- a number that is withheld is none before the first
abbrev pub IsFitChange : Change → Type 0
IsFitChange (change.Entries count number) = ⊤
IsFitChange (change.Expect number) = ⊤
IsFitChange (change.Withhold number) = 1 ≤ number
IsFitChange (change.Reset time) = ⊤
IsFitChange (change.ResetAsk time) = ⊤
IsFitChange change.Confirm = ⊤
IsFitChange change.Mark = ⊤

-- a fault of a read names no damage
abbrev pub IsReadFault : OpenFault → Type 0
IsReadFault open_fault.DiskFault = ⊤
IsReadFault (open_fault.Damaged place) = ⊥
IsReadFault open_fault.OutOfMemory = ⊤

-- the entries of these items, those before a reset too
abbrev pub pushed : List Item → List Entry
pushed [] = []
pushed (i ∷ items) = pushes_of i ++ pushed items

-- how many of them stand before the item of this index
abbrev pub entries_before : List Item → ℕ → ℕ
entries_before items index = length (pushed (take index items))

-- the counts are those of these items, whose end has these entries
pub record IsCountOf (items : List Item) (c : Counted) (out : List Entry) : Type 0 where
  pub total : c.total ≡ length (pushed items)
  pub last : c.last ≡ length out
  pub long : length c.before ≡ (length items + 63) / 64
  pub each : (k : ℕ) → k < length c.before → slice_get c.before k ≡ Some (entries_before items (64 * k))
  pub front : List Entry
  pub is : pushed items ≡ front ++ out

-- it is that of these items
pub record IsFoldOf (items : List Item) (f : Fold) : Type 0 where
  pub each : MayAllFollow new_content items
  pub stored : stored_in f ≡ stored_of (taken_all new_content items).end
  pub counts : IsCountOf items f.counts (taken_all new_content items).end.out
  pub withheld : f.withheld ≡ withheld_of (taken_all new_content items).end
  pub marked : f.marked ≡ (taken_all new_content items).marked

-- it is of so many records, and its numbers are in their ranges
pub record IsWithin (f : Fold) (count : ℕ) : Type 0 where
  pub few : f.counts.last ≤ LAST_NUMBER
  pub expected : IsKeepable (Expect f.expected)
  pub since : IfSome f.since (λ time. time ≤ LAST_TIME)
  pub counted : IsCounted f.counts count

-- the journal's file has these items, so many
pub record IsKeptOf (seen : DiskSeen) (count : ℕ) (items : List Item) (f : Fold) : Type 0 where
  pub holds : Holds seen (map spelled_item items)
  pub lasts : Lasts seen (map spelled_item items)
  pub counts : count ≡ length items
  pub folds : IsFoldOf items f

-- calls that read
pub record Reads (failures : ℕ) (old new : DiskSeen) : Type 0 where
  pub same : LeavesAsIs old new
  pub any_moment : LeavesOnly old new old.image
  pub tells_images : new.TellsImages ↔ old.TellsImages
  pub cause : Rises failures old.faults new.faults
  pub room : NeedsRoom failures 0 old new

-- the first payload that is no record after those before it, at its place in the file
pub record IsFirstBad (payloads : List (List ℕ)) (place : ℕ) : Type 0 where
  pub items : List Item
  pub payload : List ℕ
  pub later : List (List ℕ)
  pub is : payloads ≡ map spelled_item items ++ payload ∷ later
  pub each : MayAllFollow new_content items
  pub none : (i : Item) → MayFollow (taken_all new_content items) i → payload ≡ spelled_item i → ⊥
  pub at : place ≡ length (front (map spelled_item items))

-- what a walk over a journal's records finds
abbrev pub Folds : Result Folded OpenFault → List (List ℕ) → Type 0
Folds (Ok f) payloads = (items : List Item) × (payloads ≡ map spelled_item items) × IsFoldOf items (fold_of f)
Folds (Err open_fault.DiskFault) payloads = ⊤
Folds (Err (open_fault.Damaged place)) payloads = IsFirstBad payloads place
Folds (Err open_fault.OutOfMemory) payloads = ⊤

-- a journal of which records were read
pub record GoesOn {D : Type 0} (old new : JournalSeen D) : Type 0 where
  pub count : new.count ≡ old.count
  pub stopped : new.stopped ≡ false

-- the payloads before this index are these items, which come to this
pub record IsUpTo (payloads : List (List ℕ)) (index : ℕ) (items : List Item) (f : Fold) : Type 0 where
  pub is : take index payloads ≡ map spelled_item items
  pub folds : IsFoldOf items f

-- one step of the walk, whatever the disk gave back
abbrev pub Steps : ℕ → Fold → Fold → Type 0
Steps index old new = (i : Item) × IsFit i × MayTake old (change_of i) × (new ≡ fold_with index old (change_of i))

-- one step of the walk, over a disk that tells its file
abbrev pub Takes : Option OpenFault → ℕ → List (List ℕ) → List Item → Fold → Fold → Type 0
Takes None index payloads items old new = (i : Item) × (slice_get payloads index ≡ Some (spelled_item i))
    × MayFollow (taken_all new_content items) i × (new ≡ fold_with index old (change_of i))
Takes (Some open_fault.DiskFault) index payloads items old new = ⊤
Takes (Some (open_fault.Damaged place)) index payloads items old new = ((i : Item)
    → MayFollow (taken_all new_content items) i → slice_get payloads index ≡ Some (spelled_item i) → ⊥)
    × (place ≡ length (front (take index payloads)))
Takes (Some open_fault.OutOfMemory) index payloads items old new = ⊤
