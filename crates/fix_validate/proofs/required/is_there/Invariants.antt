use Rattle.std.proofs.Common.{◌≡◌, drop}
use Rattle.fix_groups.specs.Tagged.{all_tagged}
use Rattle.fix_validate.specs.Required.{is_there}
use Rattle.fix_validate.proofs.required.is_there.Given as goal

abbrev pub invariant-loop-field : goal.invariant-loop-field
invariant-loop-field l = is_there l.fn.tag (all_tagged (drop l.field-index l.fields)) ≡ is_there l.fn.tag (all_tagged l.fields)
