use Rattle.std.proofs.Common.{◌≡◌, ◌++◌, drop}
use Rattle.fix_fields.specs.Members.{shapes_of}
use Rattle.fix_dict.specs.Roles.{required_tags}
use Rattle.fix_dict.proofs.noted.required_of.Given as goal

abbrev pub invariant-loop-member : goal.invariant-loop-member
invariant-loop-member l = l.tags.items ++ required_tags (shapes_of (drop l.member-index l.member-items)) ≡ required_tags l.layout
