use Rattle.std.proofs.Common.{arith}
use Rattle.fix_disk.proofs.memory_disk.MemoryDiskDisk.len.Goals as goal

pub invariant_of-self-clause-in_time : goal.invariant_of-self-clause-in_time
invariant_of-self-clause-in_time c = λ some. omega (arith, c.args.self.now.in_time some, c.fails.ensures.no_fewer)
