use Rattle.fix_top.proofs.ServeLemmas.{began_goes, began_up, if_goes, then_goes}
use Rattle.fix_top.proofs.turn_tests.begin.Goals as goal

pub begin-requires-clause-phase : goal.begin-requires-clause-phase
begin-requires-clause-phase g c = if_goes _ _ c.requires.goes c.requires.down

pub begin-requires-clause-in_step : goal.begin-requires-clause-in_step
begin-requires-clause-in_step g c = if_goes _ _ c.requires.goes c.requires.stands

pub returns-in-Ok-clause-goes : goal.returns-in-Ok-clause-goes
returns-in-Ok-clause-goes g c = began_goes _ _ _ _ _ c.requires.goes c.in-Ok.ensures.begins

pub returns-in-Ok-clause-up : goal.returns-in-Ok-clause-up
returns-in-Ok-clause-up g c = began_up _ _ _ _ _ c.requires.goes c.in-Ok.ensures.begins

pub returns-in-Ok-clause-stands : goal.returns-in-Ok-clause-stands
returns-in-Ok-clause-stands g c = then_goes _ _ (began_goes _ _ _ _ _ c.requires.goes c.in-Ok.ensures.begins) c.in-Ok.ensures.stands
