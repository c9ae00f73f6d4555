use Rattle.std.proofs.Common.{◌≡◌, ◌++◌, ◌≤◌, ◌-◌, take, drop, length}
use Rattle.fix_groups.specs.Open.{kept}
use Rattle.fix_groups.proofs.misfits.keep.Given as goal

abbrev pub invariant-loop-i : goal.invariant-loop-i
invariant-loop-i l = (take l.i l.counts.items ++ kept l.root l.tag (drop l.i l.counts.items) ≡ kept l.root l.tag l.fn.counts.items) × (l.i ≤ length l.counts.items)

abbrev pub decreases-loop-i : goal.decreases-loop-i
decreases-loop-i l = length l.counts.items - l.i
