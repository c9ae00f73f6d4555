use Rattle.std.proofs.Common.{◌≡◌, drop}
use Rattle.fix_fields.specs.Members.{shapes_of}
use Rattle.fix_groups.specs.Tagged.{all_tagged}
use Rattle.fix_groups.specs.Touched.{touched}
use Rattle.fix_groups.proofs.look.is_touched.Given as goal

abbrev pub invariant-loop-member : goal.invariant-loop-member
invariant-loop-member l = touched (shapes_of (drop l.member-index l.member-items)) (all_tagged l.fields) ≡ touched l.layout (all_tagged l.fields)
