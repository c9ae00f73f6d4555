use Rattle.std.proofs.Common.{◌≡◌, drop}
use Rattle.fix_fields.specs.Members.{shapes_of}
use Rattle.fix_groups.specs.Looked.{owner}
use Rattle.fix_groups.proofs.look.+owner.Given as goal

abbrev pub invariant-loop-member : goal.invariant-loop-member
invariant-loop-member l = owner l.tag (shapes_of (drop l.member-index l.member-items)) ≡ owner l.tag l.layout
