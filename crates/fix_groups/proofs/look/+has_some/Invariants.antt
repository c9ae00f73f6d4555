use Rattle.std.proofs.Common.{◌≡◌, drop}
use Rattle.fix_fields.specs.Members.{shapes_of}
use Rattle.fix_groups.specs.Tagged.{all_tagged}
use Rattle.fix_groups.specs.Touched.{has_some}
use Rattle.fix_groups.proofs.look.+has_some.Given as goal

abbrev pub invariant-loop-member : goal.invariant-loop-member
invariant-loop-member l = has_some (shapes_of (drop l.member-index l.member-items)) (all_tagged l.fields) ≡ has_some l.layout (all_tagged l.fields)
