use Rattle.fix_top.proofs.ServeLemmas.{if_goes, then_goes}
use Rattle.fix_top.proofs.turn_tests.run.Goals as goal

pub run_turns-requires-clause-phase : goal.run_turns-requires-clause-phase
run_turns-requires-clause-phase g c = if_goes _ _ c.requires.goes c.requires.up

pub run_turns-requires-clause-in_step : goal.run_turns-requires-clause-in_step
run_turns-requires-clause-in_step g c = if_goes _ _ c.requires.goes c.requires.stands

pub returns-clause-stops : goal.returns-clause-stops
returns-clause-stops g c = then_goes _ _ c.requires.goes c.run_turns.ensures.stops

pub returns-clause-phase : goal.returns-clause-phase
returns-clause-phase g c = then_goes _ _ c.requires.goes c.run_turns.ensures.phase

pub returns-clause-stands : goal.returns-clause-stands
returns-clause-stands g c = c.run_turns.ensures.stands
