-- What is seen of the parts in memory, and which of their calls fail.
use Rattle.std.specs.Prelude.{◌≡◌, ℕ, ◌-◌, ◌<◌, ◌≤◌, map, option_map, take, vec_len, vec_capacity, List, [], ◌∷◌}
use Rattle.std.specs.Prelude.{length, drop, Option, Some, None}
use Rattle.fix_base.specs.declared.act.Act.{Act}
use Rattle.fix_base.specs.declared.entry.Entry.{Entry}
use Rattle.fix_disk.specs.Script.{Script, script_with, told_room}
use Rattle.fix_fields.specs.Drafted.{draft_body}
use Rattle.fix_parts.specs.declared.memory_link.MemoryLink.{MemoryLink}
use Rattle.fix_parts.specs.declared.memory_app.MemoryApp.{MemoryApp}
use Rattle.fix_parts.specs.declared.memory_clock.MemoryClock.{MemoryClock}
use Rattle.fix_parts.specs.declared.tape.KeptTape.{KeptTape}
use Rattle.fix_parts.specs.Link.{LinkSeen}
use Rattle.fix_parts.specs.App.{AppSeen}

-- the pieces of which so much of the first was read
abbrev pub rest_of : ℕ → List (List ℕ) → List (List ℕ)
rest_of part [] = []
rest_of part (piece ∷ later) = drop part piece ∷ later

abbrev pub pieces_of : MemoryLink → List (List ℕ)
pieces_of m = rest_of m.part (drop m.at m.pieces.items)

abbrev pub link_of : MemoryLink → LinkSeen
link_of m = record {
  to_come = Some (pieces_of m);
  written = Some m.out.items;
  room = told_room m.failing.numbers.items (m.capacity - length m.out.items);
  faults = m.failing.faults;
}

abbrev pub link_script : MemoryLink → Script
link_script m = script_with m.failing m.capacity

-- how many bytes it can keep yet
abbrev pub link_room : MemoryLink → ℕ
link_room m = m.capacity - length m.out.items

-- of the copies of its drafts, those that it gave and those that it gives yet
abbrev pub bodies_of : MemoryApp → List (List ℕ)
bodies_of m = map draft_body m.copies.items

abbrev pub answers_of : MemoryApp → List (Option (List ℕ))
answers_of m = map (option_map draft_body) m.drafts.items

abbrev pub app_of : MemoryApp → AppSeen
app_of m = record {
  given = Some m.given.items;
  lines = None;
  room = None;
  asked = Some (take m.asked (bodies_of m));
  to_ask = Some (answers_of m);
  faults = m.failing.faults;
}

abbrev pub app_script : MemoryApp → Script
app_script m = script_with m.failing m.capacity

-- how many messages it can take yet
abbrev pub app_room : MemoryApp → ℕ
app_room m = m.capacity - length m.given.items

abbrev pub readings_of : MemoryClock → List ℕ
readings_of m = drop m.at m.readings.items

abbrev pub acts_in : KeptTape → List Act
acts_in t = t.acts.items

-- there is room for one act, a buffer for its bytes, and a copy of these entries
abbrev pub KeptRoom : KeptTape → ℕ → List Entry → Type 0
KeptRoom t n entries = (vec_len t.acts < vec_capacity t.acts) × (t.spare.items ≡ []) × (n ≤ vec_capacity t.spare)
    × (t.entries.items ≡ entries)
