use Rattle.std.proofs.Common.{◌≡◌, ◌%◌, sum, take}
use Rattle.fix_frame.proofs.summing.checksum.Given as goal

abbrev pub invariant-loop-b : goal.invariant-loop-b
invariant-loop-b l = l.sum ≡ sum (take l.b-index l.bytes) % 256
