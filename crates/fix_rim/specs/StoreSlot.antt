-- What is seen of the disk of a message store, whether the store is open, and what its calls do to these.
use Rattle.std.specs.Prelude.{◌≡◌, ◌⊎◌, ◌↔◌, ℕ, ◌≤◌, List, [], if◌then◌else◌, Bool, true, false, Option, Some, None}
use Rattle.std.specs.Prelude.{IsSome, IfSome, Result, Ok, Err, ⊤}
use Rattle.fix_base.specs.declared.act.Act.{Act}
use Rattle.fix_base.specs.declared.entry.By.{By}
use Rattle.fix_base.specs.declared.entry.Entry.{Entry}
use Rattle.fix_base.specs.declared.entry.Entry.TheVariants.{App, Admin}
use Rattle.fix_base.specs.declared.entry.Record.{Record}
use Rattle.fix_base.specs.declared.entry.Record.TheVariants.{Push, Expect, Many, Withhold, Reset, ResetAsk, Confirm}
use Rattle.fix_base.specs.declared.entry.Stored.{Stored}
use Rattle.fix_base.specs.End.{End, folded, IsAppAt}
use Rattle.fix_base.specs.Lists.{Among}
use Rattle.fix_base.specs.Parts.{HasNoRoom, TakesRoom, KeepsRoom}
use Rattle.fix_base.specs.Payload.{LAST_TIME, record_size}
use Rattle.fix_base.specs.Trace.{HoldsOn, Rises}
use Rattle.fix_disk.specs.Disk.{DiskSeen}
use Rattle.fix_disk.specs.FileDisk.{untold}
use Rattle.fix_disk.specs.Moments.{LeavesOnly}
use Rattle.fix_journal.specs.declared.fault.OpenFault.{OpenFault}
use Rattle.fix_journal.specs.declared.fault.OpenFault.TheVariants as open_fault
use Rattle.fix_store.specs.Reading.{HasEnd, IsBrokenAt}
use Rattle.fix_store.specs.Store.{HoldsEnd, LastsEnd, IsEitherEnd}
use Rattle.fix_store.specs.Rooms.{room_left}
use Rattle.fix_outside.specs.Outside.{IsStoredOf}
use Rattle.fix_rim.specs.declared.slot_contents.SlotContents.{SlotContents}
use Rattle.fix_rim.specs.declared.slot_contents.SlotContents.TheVariants as contents
use Rattle.fix_outside.specs.declared.outside.KeepFault.{KeepFault}
use Rattle.fix_outside.specs.declared.outside.KeepFault.TheVariants as keep
use Rattle.fix_outside.specs.declared.outside.LoadFault.{LoadFault}
use Rattle.fix_outside.specs.declared.outside.LoadFault.TheVariants as load
use Rattle.fix_outside.specs.declared.outside.FetchFault.{FetchFault}
use Rattle.fix_outside.specs.declared.outside.FetchFault.TheVariants as fetch
use Rattle.fix_outside.specs.declared.outside.Kind.{Kind}
use Rattle.fix_outside.specs.declared.outside.Kind.TheVariants as kind

-- no disk is there
abbrev pub IsTaken : {D : Type 0} → SlotContents D → Type 0
IsTaken contents.Taken = ⊤
IsTaken (contents.Shut d) = ⊥
IsTaken (contents.Open s) = ⊥

-- a disk is there, with a store on it or none
abbrev pub is_held : {D : Type 0} → SlotContents D → Bool
is_held contents.Taken = false
is_held (contents.Shut d) = true
is_held (contents.Open s) = true

abbrev pub IsHeld : {D : Type 0} → SlotContents D → Type 0
IsHeld h = is_held h ≡ true

-- the disk
abbrev pub device_in : {D : Type 0} → SlotContents D → Option D
device_in contents.Taken = None
device_in (contents.Shut d) = Some d
device_in (contents.Open s) = Some s.disk

-- what is seen of it
abbrev pub seen_on : {D : Type 0} → (D → DiskSeen) → Option D → DiskSeen
seen_on disk None = untold 0
seen_on disk (Some d) = disk d

abbrev pub disk_in : {D : Type 0} → (D → DiskSeen) → SlotContents D → DiskSeen
disk_in disk h = seen_on disk (device_in h)

-- how many entries the store has, where it is open: one that stopped isn't
abbrev pub open_in : {D : Type 0} → SlotContents D → Option ℕ
open_in contents.Taken = None
open_in (contents.Shut d) = None
open_in (contents.Open s) = if s.stopped then None else Some s.stored.last

-- the disk, and how many entries the store has, where it is open
pub record StoreSlotSeen (D : Type 0) : Type 0 where
  pub device : Option D
  pub open_at : Option ℕ

-- the disk tells its file, which breaks first there
abbrev pub BreaksAt : DiskSeen → ℕ → Type 0
BreaksAt seen place = (file : List ℕ) × (seen.bytes ≡ Some file) × IsBrokenAt file place

-- what acts do to the ends that a disk tells, with so many failures; whether its file breaks stays
pub record DiskMoves (acts : List Act) (failed : ℕ) (old new : DiskSeen) : Type 0 where
  pub stored : HoldsOn (HoldsEnd old) (HoldsEnd new) acts
  pub tells : IsSome new.bytes ↔ IsSome old.bytes
  pub breaks : (place : ℕ) → BreaksAt new place ↔ BreaksAt old place
  pub cause : Rises failed old.faults new.faults

-- numbers within their bounds, those of the end that is told, which is one, of a file that doesn't break
pub record IsLoadedFrom (stored : Stored) (seen : DiskSeen) : Type 0 where
  pub last : stored.last ≤ 999999999
  pub expected : 1 ≤ stored.expected
  pub expected_bound : stored.expected ≤ 1000000000
  pub since : IfSome stored.since (λ time. time ≤ LAST_TIME)
  pub told : (e : End) → HoldsEnd seen e → IsStoredOf stored e
  pub one : (a b : End) → HoldsEnd seen a → HoldsEnd seen b → a ≡ b
  pub unbroken : (place : ℕ) → BreaksAt seen place → ⊥

abbrev pub LoadGives : Result Stored LoadFault → DiskSeen → Type 0
LoadGives (Ok stored) seen = IsLoadedFrom stored seen
LoadGives (Err load.Failed) seen = ⊤
LoadGives (Err (load.Damaged place)) seen = IsSome seen.bytes → BreaksAt seen place
LoadGives (Err load.OutOfMemory) seen = ⊤

abbrev pub LoadRoom : {T : Type 0} → Result T LoadFault → DiskSeen → DiskSeen → Type 0
LoadRoom (Ok x) old new = KeepsRoom (room_left old) (room_left new)
LoadRoom (Err load.Failed) old new = HasNoRoom 0 (room_left old)
LoadRoom (Err (load.Damaged place)) old new = room_left new ≡ room_left old
LoadRoom (Err load.OutOfMemory) old new = room_left new ≡ room_left old

abbrev pub load_fault_of : OpenFault → LoadFault
load_fault_of open_fault.DiskFault = load.Failed
load_fault_of (open_fault.Damaged place) = load.Damaged place
load_fault_of open_fault.OutOfMemory = load.OutOfMemory

-- a file has one of two ends, a disk tells such a file, and a crash leaves one
abbrev pub HasOne : End → End → List ℕ → Type 0
HasOne e f file = HasEnd file e ⊎ HasEnd file f

abbrev pub HoldsOne : DiskSeen → End → End → Type 0
HoldsOne seen e f = HoldsEnd seen e ⊎ HoldsEnd seen f

abbrev pub LastsOne : DiskSeen → End → End → Type 0
LastsOne seen e f = seen.TellsImages → (c : List ℕ) → seen.image c → HasOne e f c

-- a crash at any moment of an opening, or after it, leaves the end that was on the disk
pub record LoadLeaves (old new : DiskSeen) : Type 0 where
  pub any_moment : (e : End) → HoldsEnd old e → LastsEnd old e → LeavesOnly old new (λ c. HasEnd c e)
  pub now : (e : End) → HoldsEnd old e → LastsEnd old e → LastsEnd new e
  -- and where it was one of two, as after a record that may be kept or not, it leaves one of these
  pub either : (e f : End) → HoldsOne old e f → LastsOne old e f → LeavesOnly old new (HasOne e f)
  pub either_now : (e f : End) → HoldsOne old e f → LastsOne old e f → LastsOne new e f

-- and after an opening the end that is told is on it
abbrev pub LoadLasts : {T : Type 0} → Result T LoadFault → DiskSeen → Type 0
LoadLasts (Ok x) new = (e : End) → HoldsEnd new e → LastsEnd new e
LoadLasts (Err fault) new = ⊤

abbrev pub KeptRoom : {T : Type 0} → Result T KeepFault → Record → DiskSeen → DiskSeen → Type 0
KeptRoom (Ok x) r old new = TakesRoom r (room_left old) (room_left new)
KeptRoom (Err keep.Failed) r old new = HasNoRoom (record_size r) (room_left old)
KeptRoom (Err keep.OutOfMemory) r old new = room_left new ≡ room_left old

-- an acknowledged record is in the end of whatever a crash leaves
abbrev pub LastsKept : {T : Type 0} → Result T KeepFault → Record → DiskSeen → DiskSeen → Type 0
LastsKept (Ok x) r old new = (e : End) → HoldsEnd old e → LastsEnd new (folded e r)
LastsKept (Err fault) r old new = ⊤

-- what a crash leaves of a store that keeps a record
pub record KeepLeaves {T : Type 0} (answer : Result T KeepFault) (r : Record) (old new : DiskSeen) : Type 0 where
  -- at any moment of it the end from before, or with the record
  pub any_moment : (e : End) → HoldsEnd old e → LeavesOnly old new (IsEitherEnd e r)
  -- after it too
  pub now : (e : End) → HoldsEnd old e → new.TellsImages → (c : List ℕ) → new.image c → IsEitherEnd e r c
  -- and where it was acknowledged with the record
  pub kept : LastsKept answer r old new

-- where it is out of memory, nothing was done
abbrev pub KeepLeft : {T : Type 0} → Result T KeepFault → Record → DiskSeen → DiskSeen → Type 0
KeepLeft (Ok x) r old new = KeepLeaves (Ok x) r old new
KeepLeft {T} (Err keep.Failed) r old new = KeepLeaves {T = T} (Err keep.Failed) r old new
KeepLeft (Err keep.OutOfMemory) r old new = ⊤

abbrev pub FetchRoom : {T : Type 0} → Result T FetchFault → DiskSeen → DiskSeen → Type 0
FetchRoom (Ok x) old new = room_left new ≡ room_left old
FetchRoom (Err fetch.Failed) old new = HasNoRoom 0 (room_left old)
FetchRoom (Err fetch.OutOfMemory) old new = room_left new ≡ room_left old

-- a number that is withheld is one of an application message, in the end that the disk tells
abbrev pub NamesAppOn : Record → DiskSeen → Type 0
NamesAppOn (Push entry) seen = ⊤
NamesAppOn (Expect number) seen = ⊤
NamesAppOn (Many pushes number) seen = ⊤
NamesAppOn (Withhold number) seen = (e : End) → HoldsEnd seen e → (body : List ℕ) × IsAppAt e.out number body
NamesAppOn (Reset time) seen = ⊤
NamesAppOn (ResetAsk time) seen = ⊤
NamesAppOn Confirm seen = ⊤

-- a number that is withheld is one of a store that tells this
abbrev pub IsNumbered : Record → Stored → Type 0
IsNumbered (Push entry) stored = ⊤
IsNumbered (Expect number) stored = ⊤
IsNumbered (Many pushes number) stored = ⊤
IsNumbered (Withhold number) stored = number ≤ stored.last
IsNumbered (Reset time) stored = ⊤
IsNumbered (ResetAsk time) stored = ⊤
IsNumbered Confirm stored = ⊤

-- whether the store tells that it is withheld
abbrev pub IsToldHeld : Kind → Bool → Type 0
IsToldHeld (kind.App time) withheld = withheld ≡ false
IsToldHeld kind.Admin withheld = ⊤
IsToldHeld kind.Withheld withheld = withheld ≡ true

-- whether the end withholds the message that is fetched
abbrev pub IsHeldAs : Kind → ℕ → End → Type 0
IsHeldAs (kind.App time) number e = Among number e.withheld → ⊥
IsHeldAs kind.Admin number e = ⊤
IsHeldAs kind.Withheld number e = Among number e.withheld

-- the kind and the body of an entry
abbrev pub IsKindOf : Kind → Entry → List ℕ → Type 0
IsKindOf (kind.App time) entry body = (by : By) × (entry ≡ App time by body)
IsKindOf kind.Withheld entry body = (body ≡ []) × (time : ℕ) × (by : By) × (text : List ℕ) × (entry ≡ App time by text)
IsKindOf kind.Admin entry body = (body ≡ []) × (time : ℕ) × (kind : ℕ) × (about : ℕ) × (entry ≡ Admin time kind about)
