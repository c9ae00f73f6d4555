-- What is seen of a sink in memory.
use Rattle.std.specs.Prelude.{ℕ, ◌-◌, length, Some}
use Rattle.fix_disk.specs.declared.memory_sink.MemorySink.{MemorySink}
use Rattle.fix_disk.specs.Script.{Script, script_with, told_room}
use Rattle.fix_disk.specs.Sink.{SinkSeen}

abbrev pub sink_of : MemorySink → SinkSeen
sink_of m = record {
  written = Some m.out.items;
  room = told_room m.failing.numbers.items (m.capacity - length m.out.items);
  faults = m.failing.faults;
}

abbrev pub sink_script : MemorySink → Script
sink_script m = script_with m.failing m.capacity

-- how many bytes it can keep yet
abbrev pub sink_room : MemorySink → ℕ
sink_room m = m.capacity - length m.out.items
