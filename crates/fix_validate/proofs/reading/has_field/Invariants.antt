use Rattle.std.proofs.Common.{◌≡◌, drop}
use Rattle.fix_validate.specs.Table.{has_field}
use Rattle.fix_validate.proofs.reading.has_field.Given as goal

abbrev pub invariant-loop-field : goal.invariant-loop-field
invariant-loop-field l = has_field l.tag (drop l.field-index l.fields) ≡ has_field l.tag l.fields
