use Rattle.std.proofs.Common.{◌≡◌, drop}
use Rattle.fix_groups.specs.Tagged.{all_tagged}
use Rattle.fix_groups.specs.Misfits.{count_misfit}
use Rattle.fix_groups.proofs.misfits.count_misfit.Given as goal

abbrev pub invariant-loop-i : goal.invariant-loop-i
invariant-loop-i l = count_misfit l.root (all_tagged (drop l.i l.fields)) ≡ count_misfit l.root (all_tagged l.fields)
