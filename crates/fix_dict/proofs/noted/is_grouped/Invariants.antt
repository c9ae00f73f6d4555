use Rattle.std.proofs.Common.{◌≡◌, drop}
use Rattle.fix_fields.specs.Members.{shapes_of}
use Rattle.fix_dict.specs.Roles.{is_grouped}
use Rattle.fix_dict.proofs.noted.is_grouped.Given as goal

abbrev pub invariant-loop-member : goal.invariant-loop-member
invariant-loop-member l = is_grouped l.tag (shapes_of (drop l.member-index l.member-items)) ≡ is_grouped l.tag l.layout
