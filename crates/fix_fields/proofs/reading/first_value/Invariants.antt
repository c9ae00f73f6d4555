use Rattle.std.proofs.Common.{◌≡◌, length}
use Rattle.fix_base.specs.Says.{value_of}
use Rattle.fix_fields.proofs.FieldsLeft.{IsLeftOf}
use Rattle.fix_fields.proofs.reading.first_value.Given as goal

abbrev pub invariant-loop-rest : goal.invariant-loop-rest
invariant-loop-rest l = IsLeftOf l.fn.frame l.due l.rest (λ all left. value_of l.tag all ≡ value_of l.tag left)

abbrev pub decreases-loop-rest : goal.decreases-loop-rest
decreases-loop-rest l = length l.rest
