use Rattle.std.proofs.Common.{◌≡◌, drop}
use Rattle.fix_fields.specs.Members.{shapes_of}
use Rattle.fix_groups.specs.Distinct.{has_distinct_tags}
use Rattle.fix_groups.proofs.distinct.+has_distinct_tags.Given as goal

abbrev pub invariant-loop-i : goal.invariant-loop-i
invariant-loop-i l = has_distinct_tags (shapes_of (drop l.i l.members)) ≡ has_distinct_tags l.layout
