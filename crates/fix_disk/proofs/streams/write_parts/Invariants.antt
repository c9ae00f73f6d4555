use Rattle.std.proofs.Common.{◌≤◌, length, take}
use Rattle.std.specs.Io.KnownBytes.{Appends}
use Rattle.fix_disk.proofs.streams.write_parts.Given as goal

-- the first `count` bytes went out
abbrev pub invariant-loop : goal.invariant-loop
invariant-loop g l = record {
  in_bytes : l.count ≤ length l.bytes;
  bytes : Appends (g.W.Write.contents l.initial.output) (g.W.Write.contents l.output) (take l.count l.bytes);
}
