-- How much room a store has on a disk that tells its own.
use Rattle.std.specs.Prelude.{◌≡◌, ℕ, ◌+◌, ◌-◌, nat_le, if◌then◌else◌, List, Option, Some, None, ⊤}
use Rattle.fix_base.specs.declared.entry.Record.{Record}
use Rattle.fix_base.specs.Parts.{HasNoRoom, TakesRoom, KeepsRoom}
use Rattle.fix_base.specs.Payload.{record_size}
use Rattle.fix_disk.specs.Disk.{DiskSeen}
use Rattle.fix_journal.specs.declared.fault.OpenFault.{OpenFault}
use Rattle.fix_journal.specs.declared.fault.OpenFault.TheVariants as open_fault
use Rattle.fix_journal.specs.Format.{file_size}
use Rattle.fix_journal.specs.Payloads.{payloads_in}
use Rattle.fix_store.specs.Ends.{is_marked}
use Rattle.fix_store.specs.declared.fault.StoreFault.{StoreFault}
use Rattle.fix_store.specs.declared.fault.StoreFault.TheVariants.{Stopped, NumbersSpent, OutOfMemory, DiskFault}

-- how many bytes of a file its records take, with the mark, which an opening adds where it is missing, and the
-- closed gate after them
abbrev pub used : List ℕ → ℕ
used file = if is_marked file then file_size (payloads_in file) else file_size (payloads_in file) + 10

-- how many bytes an opening needs
abbrev pub needed : List ℕ → ℕ
needed file = if is_marked file then 10 else used file

-- the room for further records, of a disk with this room and this file; none is told of one on which a store
-- can't be opened
abbrev pub room_in : Option ℕ → Option (List ℕ) → Option ℕ
room_in None bytes = None
room_in (Some room) None = None
room_in (Some room) (Some file) = if nat_le (needed file) room then Some (room - used file) else None

abbrev pub room_left : DiskSeen → Option ℕ
room_left seen = room_in seen.room seen.bytes

-- a record takes its size of it, and the disk fails only where there isn't so much
abbrev pub KeepRoom : Option StoreFault → Record → DiskSeen → DiskSeen → Type 0
KeepRoom None r old new = TakesRoom r (room_left old) (room_left new)
KeepRoom (Some DiskFault) r old new = HasNoRoom (record_size r) (room_left old)
KeepRoom (Some Stopped) r old new = ⊤
KeepRoom (Some NumbersSpent) r old new = ⊤
KeepRoom (Some OutOfMemory) r old new = ⊤

-- an opening keeps it, and doesn't fail where it is told
abbrev pub OpenRoom : Option OpenFault → DiskSeen → DiskSeen → Type 0
OpenRoom None old new = KeepsRoom (room_left old) (room_left new)
OpenRoom (Some open_fault.DiskFault) old new = HasNoRoom 0 (room_left old)
OpenRoom (Some (open_fault.Damaged place)) old new = room_left new ≡ room_left old
OpenRoom (Some open_fault.OutOfMemory) old new = room_left new ≡ room_left old

-- and so does a read
abbrev pub ReadRoom : Option StoreFault → DiskSeen → DiskSeen → Type 0
ReadRoom None old new = room_left new ≡ room_left old
ReadRoom (Some DiskFault) old new = HasNoRoom 0 (room_left old)
ReadRoom (Some Stopped) old new = ⊤
ReadRoom (Some NumbersSpent) old new = ⊤
ReadRoom (Some OutOfMemory) old new = room_left new ≡ room_left old
