use Rattle.std.proofs.Common.{arith}
use Rattle.fix_validate.proofs.RequiredLemmas.{up_to_on}
use Rattle.fix_validate.proofs.required.length_up_to.Goals as goal

pub loop-n-preserved : goal.loop-n-preserved
loop-n-preserved c = (up_to_on _ _ _ c.index-fields-n.result c.loop-n-test.true c.index-fields-n.is (λ e. omega (arith, e)) c.loop-n.invariant.0, omega arith)
