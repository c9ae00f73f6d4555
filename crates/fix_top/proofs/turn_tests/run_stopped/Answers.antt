use Rattle.std.proofs.Common.{◌∙◌, ap}
use Rattle.fix_engine.specs.Run.{SessionSeen}
use Rattle.fix_top.proofs.ServeLemmas.{if_stopped, then_stopped}
use Rattle.fix_top.proofs.turn_tests.run_stopped.Goals as goal

pub run_turns-requires-clause-phase : goal.run_turns-requires-clause-phase
run_turns-requires-clause-phase g c = if_stopped _ _ _ c.requires.stopped

pub run_turns-requires-clause-in_step : goal.run_turns-requires-clause-in_step
run_turns-requires-clause-in_step g c = if_stopped _ _ _ c.requires.stopped

pub returns : goal.returns
returns g c = record { stopped = ap (λ (s : SessionSeen). s.stopped) (then_stopped _ _ _ c.requires.stopped c.run_turns.ensures.stays) ∙ c.requires.stopped }
