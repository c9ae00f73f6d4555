use Rattle.std.proofs.Common.{◌∙◌, ap, Some, arith}
use Rattle.fix_validate.proofs.ReadingLemmas.{value_at}
use Rattle.fix_validate.proofs.reading.value_of.Goals as goal

pub returns-then-get-tag : goal.returns-then-get-tag
returns-then-get-tag c = ap (λ v. Some v) c.value.ensures ∙ value_at _ _ _ c.field-item.result c.loop-field-test.true c.field-item.is (omega arith) c.loop-field.invariant
