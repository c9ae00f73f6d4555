use Rattle.fix_top.proofs.ServeLemmas.{opened_down, opened_goes, began_goes, began_up, then_goes}
use Rattle.fix_top.proofs.turn_tests.connected.Goals as goal

pub begin-requires-clause-phase : goal.begin-requires-clause-phase
begin-requires-clause-phase g c = opened_down _ _ _ _ c.in-Ok.ensures.opens.2.2

pub returns-in-Ok-begin-clause-goes : goal.returns-in-Ok-begin-clause-goes
returns-in-Ok-begin-clause-goes g c = began_goes _ _ _ _ _ (opened_goes _ _ _ _ c.in-Ok.ensures.opens.2.2) c.in-Ok-begin.ensures.begins

pub returns-in-Ok-begin-clause-up : goal.returns-in-Ok-begin-clause-up
returns-in-Ok-begin-clause-up g c = began_up _ _ _ _ _ (opened_goes _ _ _ _ c.in-Ok.ensures.opens.2.2) c.in-Ok-begin.ensures.begins

pub returns-in-Ok-begin-clause-stands : goal.returns-in-Ok-begin-clause-stands
returns-in-Ok-begin-clause-stands g c =
    then_goes _ _ (began_goes _ _ _ _ _ (opened_goes _ _ _ _ c.in-Ok.ensures.opens.2.2) c.in-Ok-begin.ensures.begins) c.in-Ok-begin.ensures.stands
