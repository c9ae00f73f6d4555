use Rattle.fix_top.proofs.ServeLemmas.{opened_down}
use Rattle.fix_top.proofs.tests.send_on.Goals as goal

pub begin-requires-clause-phase : goal.begin-requires-clause-phase
begin-requires-clause-phase g c = opened_down _ _ _ _ c.in-Ok.ensures.opens.2.2
