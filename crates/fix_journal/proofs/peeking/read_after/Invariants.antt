use Rattle.fix_journal.proofs.PassLemmas.{IsPassing}
use Rattle.fix_journal.proofs.peeking.read_after.Given as goal

abbrev pub invariant-loop-done : goal.invariant-loop-done
invariant-loop-done g l = IsPassing (g.D.Disk.disk l.initial.disk) (g.D.Disk.disk l.disk) l.mark l.limit l.index l.done l.place
