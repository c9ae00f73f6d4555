use Rattle.fix_top.proofs.ServeLemmas.{then_goes}
use Rattle.fix_top.proofs.turn_tests.connected_again.Goals as goal

pub begin-requires-clause-stands : goal.begin-requires-clause-stands
begin-requires-clause-stands g c = then_goes _ _ c.in-LinkFault.ensures.stops c.in-LinkFault.ensures.stands
