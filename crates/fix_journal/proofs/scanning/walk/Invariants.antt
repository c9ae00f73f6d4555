use Rattle.std.proofs.Common.{◌-◌}
use Rattle.fix_journal.proofs.WindowLemmas.{IsWalking}
use Rattle.fix_journal.proofs.scanning.walk.Given as goal

abbrev pub invariant-loop-index : goal.invariant-loop-index
invariant-loop-index g l = IsWalking (g.D.Disk.disk l.initial.disk) (g.D.Disk.disk l.disk) l.end l.index l.window

abbrev pub decreases-loop-index : goal.decreases-loop-index
decreases-loop-index g l = l.end - l.index.closed
