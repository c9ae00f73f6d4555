use Rattle.std.proofs.Common.{◌≡◌, drop}
use Rattle.fix_fields.specs.Members.{shapes_of}
use Rattle.fix_fields.specs.NoTwice.{has_tag}
use Rattle.fix_groups.proofs.distinct.stands_in.Given as goal

abbrev pub invariant-loop-member : goal.invariant-loop-member
invariant-loop-member l = has_tag l.tag (shapes_of (drop l.member-index l.members)) ≡ has_tag l.tag (shapes_of l.members)
