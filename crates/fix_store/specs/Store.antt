-- What is seen of a store, and what its calls do.
use Rattle.std.specs.Prelude.{◌≡◌, refl, ◌⊎◌, ◌↔◌, ℕ, ◌+◌, ◌<◌, ◌≤◌, ◌==◌, if◌then◌else◌, Bool, true, false, List, length}
use Rattle.std.specs.Prelude.{Option, Some, None, IsSome, IfSome, Result, Ok, Err, IfOk, ⊤}
use Rattle.std.specs.FinSet as set
use Rattle.std.specs.Coded.{Coded, code_by, coded×, coded_bool, coded_ℕ, coded_option}
use Rattle.std.specs.Ordering.{nat_cmp}
use Rattle.fix_base.specs.declared.entry.Entry.{Entry}
use Rattle.fix_base.specs.declared.entry.Record.{Record}
use Rattle.fix_base.specs.declared.entry.Entry.TheVariants.{Admin}
use Rattle.fix_base.specs.declared.entry.Record.TheVariants.{Push, Expect, Many, Withhold, Reset, ResetAsk, Confirm}
use Rattle.fix_base.specs.End.{End, folded, IsEntry}
use Rattle.fix_base.specs.Payload.{HasPayload, IsKeepable, IsKeepableAt, LAST_TIME}
use Rattle.fix_base.specs.Trace.{Rises}
use Rattle.fix_base.specs.declared.entry.Stored.{Stored}
use Rattle.fix_base.specs.contracts.entry.Stored as stored_type
use Rattle.fix_disk.specs.Disk.{DiskSeen, LeavesAsIs}
use Rattle.fix_disk.specs.Moments.{LeavesOnly}
use Rattle.fix_store.specs.declared.fault.StoreFault.{StoreFault}
use Rattle.fix_store.specs.declared.fault.StoreFault.TheVariants.{Stopped, NumbersSpent, OutOfMemory, DiskFault}
use Rattle.fix_store.specs.Spelling.{spelled_entry}
use Rattle.fix_store.specs.Reading.{LAST_NUMBER, HasEnd}

-- numbers of messages
abbrev pub NumberSet : Type 0
NumberSet = set.FinSet nat_cmp

-- over a disk of type D
pub record StoreSeen (D : Type 0) : Type 0 where
  pub disk : D
  pub stored : Stored
  pub withheld : NumberSet  -- the messages that aren't to be sent again
  pub near : Option ℕ  -- the index of the record of which an entry was read last
  pub stopped : Bool  -- the disk failed at some call

abbrev pub store_code : {D : Type 0} → Coded D → Coded (StoreSeen D)
store_code {D} disk =
    code_by (D × (Stored × (NumberSet × (Option ℕ × Bool))))
    (coded× disk (coded× stored_type.the_row.coded (coded× (set.code coded_ℕ) (coded× (coded_option coded_ℕ) coded_bool))))
    (λ s. (s.disk, (s.stored, (s.withheld, (s.near, s.stopped)))))
    (λ p. record { disk = p.0; stored = p.1.0; withheld = p.1.1.0; near = p.1.1.1.0; stopped = p.1.1.1.1 })
    (λ _. refl)

-- what a store tells of an end
abbrev pub stored_of : End → Stored
stored_of e = record { last = length e.out; expected = e.stored; since = e.since; asked = e.asked }

-- the numbers of the messages that aren't to be sent again
abbrev pub withheld_of : End → NumberSet
withheld_of e = set.from_list e.withheld

-- its numbers are ones that a store may tell
pub record IsInRange (s : Stored) : Type 0 where
  pub last : s.last ≤ LAST_NUMBER
  pub expected : IsKeepable (Expect s.expected)
  pub since : IfSome s.since (λ time. time ≤ LAST_TIME)

-- what it tells after one more record
abbrev pub stored_with : Stored → Record → Stored
stored_with s (Push entry) = record s { last = s.last + 1 }
stored_with s (Expect number) = record s { expected = number }
stored_with s (Many pushes number) = record s {
  last = s.last + length pushes;
  expected = if number == 0 then s.expected else number;
}
stored_with s (Withhold number) = s
stored_with s (Reset time) = record { last = 0; expected = 1; since = Some time; asked = s.asked }
stored_with s (ResetAsk time) = record { last = 0; expected = 1; since = Some time; asked = true }
stored_with s Confirm = record s { asked = false }

abbrev pub withheld_with : NumberSet → Record → NumberSet
withheld_with w (Push entry) = w
withheld_with w (Expect number) = w
withheld_with w (Many pushes number) = w
withheld_with w (Withhold number) = set.insert w number
withheld_with w (Reset time) = set.empty
withheld_with w (ResetAsk time) = set.empty
withheld_with w Confirm = w

-- the disk tells a file with this end
abbrev pub HoldsEnd : DiskSeen → End → Type 0
HoldsEnd seen e = (file : List ℕ) × (seen.bytes ≡ Some file) × HasEnd file e

-- a crash leaves a file with this end
abbrev pub LastsEnd : DiskSeen → End → Type 0
LastsEnd seen e = seen.TellsImages → (c : List ℕ) → seen.image c → HasEnd c e

-- the end from before, or with one record more
abbrev pub IsEitherEnd : End → Record → List ℕ → Type 0
IsEitherEnd e r file = HasEnd file e ⊎ HasEnd file (folded e r)

-- these are the numbers of the end
pub record TellsEnd (told : Stored) (held : NumberSet) (e : End) : Type 0 where
  pub stored : told ≡ stored_of e
  pub withheld : held ≡ withheld_of e

-- what a store that isn't stopped tells is its end, where the disk tells its file
abbrev pub IsTold : {D : Type 0} → (D → DiskSeen) → StoreSeen D → Type 0
IsTold disk store = store.stopped ≡ false
    → IfSome (disk store.disk).bytes (λ file. (e : End) × HasEnd file e × TellsEnd store.stored store.withheld e)

-- the record may be kept at the end that the disk tells
abbrev pub MayKeep : DiskSeen → Record → Type 0
MayKeep seen r = (e : End) → HoldsEnd seen e → IsKeepableAt e r

-- each entry has a number left
abbrev pub HasNumber : Record → Stored → Type 0
HasNumber (Push entry) s = s.last < LAST_NUMBER
HasNumber (Expect number) s = ⊤
HasNumber (Many pushes number) s = s.last + length pushes ≤ LAST_NUMBER
HasNumber (Withhold number) s = ⊤
HasNumber (Reset time) s = ⊤
HasNumber (ResetAsk time) s = ⊤
HasNumber Confirm s = ⊤

-- one of them has none left
abbrev pub HasNoNumber : Record → Stored → Type 0
HasNoNumber (Push entry) s = s.last ≡ LAST_NUMBER
HasNoNumber (Expect number) s = ⊥
HasNoNumber (Many pushes number) s = LAST_NUMBER < s.last + length pushes
HasNoNumber (Withhold number) s = ⊥
HasNoNumber (Reset time) s = ⊥
HasNoNumber (ResetAsk time) s = ⊥
HasNoNumber Confirm s = ⊥

-- why a call wasn't done, if it wasn't
abbrev pub fault_of : {T : Type 0} → Result T StoreFault → Option StoreFault
fault_of (Ok x) = None
fault_of (Err fault) = Some fault

-- when each answer of a call that keeps a record comes, and what the store is then
abbrev pub KeepAnswers : {D : Type 0} → Option StoreFault → Record → StoreSeen D → StoreSeen D → Type 0
KeepAnswers None r old new = (old.stopped ≡ false) × HasNumber r old.stored
    × (new.stored ≡ stored_with old.stored r) × (new.stopped ≡ false) × (new.withheld ≡ withheld_with old.withheld r)
KeepAnswers (Some Stopped) r old new = (old.stopped ≡ true) × (new ≡ old)
KeepAnswers (Some NumbersSpent) r old new = (old.stopped ≡ false) × HasNoNumber r old.stored × (new ≡ old)
KeepAnswers (Some OutOfMemory) r old new = (old.stopped ≡ false) × HasNumber r old.stored × (new ≡ old)
KeepAnswers (Some DiskFault) r old new = (old.stopped ≡ false) × HasNumber r old.stored × (new.stored ≡ old.stored)
    × (new.stopped ≡ true) × (new.withheld ≡ old.withheld)

-- how often the disk failed in a call
abbrev pub store_failures : Option StoreFault → ℕ
store_failures None = 0
store_failures (Some Stopped) = 0
store_failures (Some NumbersSpent) = 0
store_failures (Some OutOfMemory) = 0
store_failures (Some DiskFault) = 1

-- what keeping a record does to the disk of a store that isn't stopped
pub record StoreKeeps (fault : Option StoreFault) (r : Record) (old new : DiskSeen) : Type 0 where
  -- an acknowledged record is in the end, and in that of whatever a crash leaves
  pub kept : fault ≡ None → (e : End) → HoldsEnd old e → HoldsEnd new (folded e r) × LastsEnd new (folded e r)
  -- what is read has the end from before, or with the record, whatever was answered
  pub as_read : (e : End) → HoldsEnd old e → IfSome new.bytes (IsEitherEnd e r)
  -- a crash at any moment of it leaves one of these
  pub any_moment : (e : End) → HoldsEnd old e → LeavesOnly old new (IsEitherEnd e r)
  -- and so does a crash after it
  pub now : (e : End) → HoldsEnd old e → new.TellsImages → (c : List ℕ) → new.image c → IsEitherEnd e r c
  pub tells_bytes : IsSome new.bytes ↔ IsSome old.bytes
  pub tells_images : new.TellsImages ↔ old.TellsImages
  pub cause : Rises (store_failures fault) old.faults new.faults
  pub calls : IsSome old.bytes → new.clock ≤ old.clock + 4

-- when each answer of a read comes, and what the store is then
abbrev pub ReadAnswers : {D : Type 0} → Option StoreFault → StoreSeen D → StoreSeen D → Type 0
ReadAnswers None old new = (old.stopped ≡ false) × (new.stored ≡ old.stored) × (new.stopped ≡ false)
    × (new.withheld ≡ old.withheld)
ReadAnswers (Some Stopped) old new = (old.stopped ≡ true) × (new ≡ old)
ReadAnswers (Some NumbersSpent) old new = ⊥
ReadAnswers (Some OutOfMemory) old new = (old.stopped ≡ false) × (new.stored ≡ old.stored) × (new.stopped ≡ false)
    × (new.withheld ≡ old.withheld)
ReadAnswers (Some DiskFault) old new = (old.stopped ≡ false) × (new.stored ≡ old.stored)
    × (new.stopped ≡ true) × (new.withheld ≡ old.withheld)

-- what stands for an entry where a disk that doesn't tell its bytes gave back none
abbrev pub NO_ENTRY : Entry
NO_ENTRY = Admin 0 78 0

-- bytes that were read for an entry are its payload, or that of no entry
abbrev pub ReadsAs : List ℕ → Entry → Type 0
ReadsAs payload entry = (HasPayload entry × (payload ≡ spelled_entry entry))
    ⊎ (((other : Entry) → HasPayload other → payload ≡ spelled_entry other → ⊥) × (entry ≡ NO_ENTRY))

-- what reading the entry of a number gives, and does to the disk
pub record StoreReads (answer : Result Entry StoreFault) (number : ℕ) (old new : DiskSeen) : Type 0 where
  pub entry : IfOk answer (λ entry. (e : End) → HoldsEnd old e → IsEntry e.out number entry)
  -- it is one that a store may keep, whatever the disk gave back
  pub reads : IfOk answer (λ entry. HasPayload entry × (payload : List ℕ) × ReadsAs payload entry)
  pub same : LeavesAsIs old new
  -- a crash at any moment of it leaves what one had left before
  pub any_moment : LeavesOnly old new old.image
  pub tells_images : new.TellsImages ↔ old.TellsImages
  pub cause : Rises (store_failures (fault_of answer)) old.faults new.faults
  pub calls : IsSome old.bytes → new.clock ≤ old.clock + 65
