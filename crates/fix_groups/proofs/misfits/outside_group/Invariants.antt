use Rattle.std.proofs.Common.{◌≡◌, drop, take, []}
use Rattle.fix_groups.specs.Tagged.{all_tagged}
use Rattle.fix_groups.specs.Misfits.{outside_group}
use Rattle.fix_groups.proofs.OpenRuns.{Opened}
use Rattle.fix_groups.proofs.misfits.outside_group.Given as goal

abbrev pub invariant-loop-i : goal.invariant-loop-i
invariant-loop-i l = (outside_group l.root (all_tagged (take l.i l.fields)) (all_tagged (drop l.i l.fields)) ≡ outside_group l.root [] (all_tagged l.fields)) × Opened l.root (all_tagged (take l.i l.fields)) l.counts.items
