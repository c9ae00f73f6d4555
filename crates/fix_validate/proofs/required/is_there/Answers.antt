use Rattle.std.proofs.Common.{arith}
use Rattle.fix_validate.proofs.RequiredLemmas.{there_at, there_on}
use Rattle.fix_validate.proofs.required.is_there.Goals as goal

pub returns-then-get-wanted : goal.returns-then-get-wanted
returns-then-get-wanted c = there_at c.args.tag c.args.fields.now _ c.field-item.result c.loop-field-test.true c.field-item.is (omega arith) c.loop-field.invariant

pub loop-field-preserved : goal.loop-field-preserved
loop-field-preserved c = there_on c.args.tag c.args.fields.now _ c.field-item.result c.loop-field-test.true c.field-item.is (λ e. omega (arith, e)) c.loop-field.invariant
