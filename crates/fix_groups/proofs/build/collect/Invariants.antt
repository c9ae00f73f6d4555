use Rattle.fix_groups.proofs.Collecting.{Collected}
use Rattle.fix_groups.proofs.build.collect.Given as goal

abbrev pub invariant-loop-field : goal.invariant-loop-field
invariant-loop-field l = Collected l.fn.list l.all.items l.field-iterator
