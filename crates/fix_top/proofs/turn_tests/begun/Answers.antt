use Rattle.fix_top.proofs.ServeLemmas.{then_goes}
use Rattle.fix_top.proofs.turn_tests.begun.Goals as goal

pub returns-in-TurnsSpent-clause-goes : goal.returns-in-TurnsSpent-clause-goes
returns-in-TurnsSpent-clause-goes g c = c.in-TurnsSpent.ensures.stops

pub returns-in-TurnsSpent-clause-up : goal.returns-in-TurnsSpent-clause-up
returns-in-TurnsSpent-clause-up g c = c.in-TurnsSpent.ensures.phase

pub returns-in-TurnsSpent-clause-stands : goal.returns-in-TurnsSpent-clause-stands
returns-in-TurnsSpent-clause-stands g c = then_goes _ _ c.in-TurnsSpent.ensures.stops c.in-TurnsSpent.ensures.stands
