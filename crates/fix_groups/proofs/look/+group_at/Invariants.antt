use Rattle.std.proofs.Common.{◌≡◌, drop}
use Rattle.fix_fields.specs.Members.{shapes_of}
use Rattle.fix_groups.specs.Looked.{group_at}
use Rattle.fix_groups.proofs.look.+group_at.Given as goal

abbrev pub invariant-loop-member : goal.invariant-loop-member
invariant-loop-member l = group_at l.tag (shapes_of (drop l.member-index l.member-items)) ≡ group_at l.tag l.layout
