use Rattle.std.proofs.Common.{◌≡◌, drop}
use Rattle.fix_fields.specs.Members.{shapes_of}
use Rattle.fix_groups.specs.Looked.{at_level}
use Rattle.fix_groups.proofs.look.at_level.Given as goal

abbrev pub invariant-loop-member : goal.invariant-loop-member
invariant-loop-member l = at_level l.tag (shapes_of (drop l.member-index l.members)) ≡ at_level l.tag (shapes_of l.members)
