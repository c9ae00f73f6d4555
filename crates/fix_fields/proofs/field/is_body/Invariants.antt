use Rattle.std.proofs.Common.{length, None}
use Rattle.std.specs.Prelude.{◌↔◌}
use Rattle.fix_base.specs.Shape.{HasFieldsAfter}
use Rattle.fix_fields.proofs.field.is_body.Given as goal

abbrev pub invariant-loop-rest : goal.invariant-loop-rest
invariant-loop-rest l = HasFieldsAfter l.due l.rest ↔ HasFieldsAfter None l.fn.body

abbrev pub decreases-loop-rest : goal.decreases-loop-rest
decreases-loop-rest l = length l.rest
