use Rattle.std.proofs.Common.{◌≡◌, drop}
use Rattle.fix_groups.specs.Open.{contains}
use Rattle.fix_groups.proofs.misfits.contains.Given as goal

abbrev pub invariant-loop-tag : goal.invariant-loop-tag
invariant-loop-tag l = contains l.count (drop l.tag-index l.counts) ≡ contains l.count l.counts
