-- What is seen of an outside over a disk.
use Rattle.std.specs.Prelude.{ℕ, IsSome, List, Option}
use Rattle.fix_base.specs.declared.act.Act.{Act}
use Rattle.fix_base.specs.Parts.{PartsSeen}
use Rattle.fix_base.specs.Trace.{OutsideSeen}
use Rattle.fix_disk.specs.Disk.{DiskSeen}
use Rattle.fix_parts.specs.Link.{LinkSeen}
use Rattle.fix_parts.specs.App.{AppSeen}
use Rattle.fix_store.specs.Store.{HoldsEnd}
use Rattle.fix_store.specs.Rooms.{room_left}
use Rattle.fix_rim.specs.StoreSlot.{seen_on, BreaksAt}
use Rattle.fix_rim.specs.declared.rim.Rim.{Rim}

-- what is seen of the disk
abbrev pub disk_seen : {D L A C T : Type 0} → (D → DiskSeen) → Rim D L A C T → DiskSeen
disk_seen disk p = seen_on disk p.slot.device

-- the disk, and how many entries the store has, where it is open
abbrev pub disk_in : {D L A C T : Type 0} → Rim D L A C T → Option D
disk_in p = p.slot.device

abbrev pub open_at_of : {D L A C T : Type 0} → Rim D L A C T → Option ℕ
open_at_of p = p.slot.open_at

-- the other parts
abbrev pub link_in : {D L A C T : Type 0} → Rim D L A C T → Option L
link_in p = p.optional_link.link

abbrev pub unlinked_in : {D L A C T : Type 0} → Rim D L A C T → ℕ
unlinked_in p = p.optional_link.unlinked

abbrev pub app_in : {D L A C T : Type 0} → Rim D L A C T → A
app_in p = p.app

abbrev pub clock_in : {D L A C T : Type 0} → Rim D L A C T → C
clock_in p = p.clock

abbrev pub tape_in : {D L A C T : Type 0} → Rim D L A C T → T
tape_in p = p.tape

-- what is seen of the whole, from what is seen of the parts. It holds the end of the disk's file, where the
-- disk tells its bytes; an unmade file holds the new end
abbrev pub parts_of : DiskSeen → LinkSeen → AppSeen → Option (List ℕ) → PartsSeen
parts_of disk link app readings = record {
  to_come = link.to_come;
  readings = readings;
  written = link.written;
  link_room = link.room;
  lines = app.lines;
  line_room = app.room;
  asked = app.asked;
  to_ask = app.to_ask;
  store_room = room_left disk;
}

abbrev pub seen_of : Option (List Act) → DiskSeen → Option ℕ → LinkSeen → AppSeen → Option (List ℕ) → OutsideSeen
seen_of tape disk open_at link app readings = record {
  tape = tape;
  Holds = HoldsEnd disk;
  open_at = open_at;
  Tells = IsSome disk.bytes;
  Breaks = BreaksAt disk;
  faults = record { store = disk.faults; link = link.faults; app = app.faults };
  parts = parts_of disk link app readings;
}

-- the one with the clock of the other, and its tape: what a look at the clock changes. The others likewise
abbrev pub with_clock_of : {D L A C T : Type 0} → Rim D L A C T → Rim D L A C T → Rim D L A C T
with_clock_of p q = record {
  slot = p.slot;
  optional_link = p.optional_link;
  app = p.app;
  clock = q.clock;
  tape = q.tape;
}

abbrev pub with_tape_of : {D L A C T : Type 0} → Rim D L A C T → Rim D L A C T → Rim D L A C T
with_tape_of p q = record {
  slot = p.slot;
  optional_link = p.optional_link;
  app = p.app;
  clock = p.clock;
  tape = q.tape;
}

abbrev pub with_link_of : {D L A C T : Type 0} → Rim D L A C T → Rim D L A C T → Rim D L A C T
with_link_of p q = record {
  slot = p.slot;
  optional_link = q.optional_link;
  app = p.app;
  clock = p.clock;
  tape = q.tape;
}

abbrev pub with_store_of : {D L A C T : Type 0} → Rim D L A C T → Rim D L A C T → Rim D L A C T
with_store_of p q = record {
  slot = q.slot;
  optional_link = p.optional_link;
  app = p.app;
  clock = p.clock;
  tape = q.tape;
}

abbrev pub with_app_of : {D L A C T : Type 0} → Rim D L A C T → Rim D L A C T → Rim D L A C T
with_app_of p q = record { slot = p.slot; optional_link = p.optional_link; app = q.app; clock = p.clock; tape = q.tape }

-- the one with the application of the other
abbrev pub with_app_alone_of : {D L A C T : Type 0} → Rim D L A C T → Rim D L A C T → Rim D L A C T
with_app_alone_of p q = record {
  slot = p.slot;
  optional_link = p.optional_link;
  app = q.app;
  clock = p.clock;
  tape = p.tape;
}
