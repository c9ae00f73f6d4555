use Rattle.std.proofs.Common.{◌≡◌, drop}
use Rattle.fix_fields.specs.Members.{shapes_of}
use Rattle.fix_groups.specs.Distinct.{shares_a_tag}
use Rattle.fix_groups.proofs.distinct.+shares_a_tag.Given as goal

abbrev pub invariant-loop-member : goal.invariant-loop-member
invariant-loop-member l = shares_a_tag (shapes_of (drop l.member-index l.member-items)) (shapes_of l.members) ≡ shares_a_tag l.layout (shapes_of l.members)
