use Rattle.std.proofs.Common.{◌≡◌, drop}
use Rattle.fix_groups.specs.Tagged.{all_tagged}
use Rattle.fix_groups.specs.Touched.{has_field}
use Rattle.fix_groups.proofs.look.has_field.Given as goal

abbrev pub invariant-loop-field : goal.invariant-loop-field
invariant-loop-field l = has_field l.tag (all_tagged (drop l.field-index l.fields)) ≡ has_field l.tag (all_tagged l.fields)
