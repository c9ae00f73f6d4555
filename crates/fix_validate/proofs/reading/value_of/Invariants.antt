use Rattle.std.proofs.Common.{◌≡◌, drop}
use Rattle.fix_base.specs.Says.{value_of}
use Rattle.fix_validate.proofs.reading.value_of.Given as goal

abbrev pub invariant-loop-field : goal.invariant-loop-field
invariant-loop-field l = value_of l.tag (drop l.field-index l.fields) ≡ value_of l.tag l.fields
