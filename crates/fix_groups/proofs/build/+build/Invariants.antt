use Rattle.std.proofs.Common.{◌+◌, ◌*◌, length}
use Rattle.fix_groups.proofs.Building.{Builds, BuildsItems}
use Rattle.fix_groups.proofs.build.+build.Given as goal

abbrev pub decreases-build : goal.decreases-build
decreases-build l = 2 * length l.fields.now

abbrev pub decreases-build_items : goal.decreases-build_items
decreases-build_items l = 2 * length l.run.now + 1

abbrev pub invariant-build-loop-left : goal.invariant-build-loop-left
invariant-build-loop-left l = Builds l.root l.fields l.nodes.items l.left

abbrev pub decreases-build-loop-left : goal.decreases-build-loop-left
decreases-build-loop-left l = length l.left

abbrev pub invariant-build_items-loop-left : goal.invariant-build_items-loop-left
invariant-build_items-loop-left l = BuildsItems l.root l.group l.run l.items.items l.left

abbrev pub decreases-build_items-loop-left : goal.decreases-build_items-loop-left
decreases-build_items-loop-left l = length l.left
