use Rattle.fix_store.specs.Folding.{fold_of}
use Rattle.fix_store.proofs.WalkLemmas.{IsWalking}
use Rattle.fix_store.proofs.walking.walk.Given as goal

abbrev pub invariant-loop-index : goal.invariant-loop-index
invariant-loop-index g l = IsWalking g.D.Disk.disk l.fn.journal l.journal l.cursor l.index (fold_of l.folded)
