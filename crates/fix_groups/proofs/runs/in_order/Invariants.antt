use Rattle.std.proofs.Common.{◌≡◌, drop}
use Rattle.fix_fields.specs.Members.{shapes_of}
use Rattle.fix_groups.specs.Tagged.{all_tagged}
use Rattle.fix_groups.specs.Runs.{in_order}
use Rattle.fix_groups.proofs.runs.in_order.Given as goal

abbrev pub invariant-loop-field : goal.invariant-loop-field
invariant-loop-field l = in_order l.group (shapes_of l.left) (all_tagged (drop l.field-index l.run)) ≡ in_order l.group l.group (all_tagged l.run)
