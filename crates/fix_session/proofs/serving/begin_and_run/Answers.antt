use Rattle.fix_outside.proofs.CallLemmas.{Called-append}
use Rattle.fix_session.specs.Serve.{begins_and_runs, begins_not}
use Rattle.fix_session.proofs.ServeLemmas.{if_none, none_if, begun_goes_on, begun_phase}
use Rattle.fix_session.proofs.serving.begin_and_run.Goals as goal

pub run_turns-requires-clause-phase : goal.run_turns-requires-clause-phase
run_turns-requires-clause-phase g c =
    none_if _ _ (begun_phase _ _ _ (if_none _ _ c.requires.goes_on c.in-Ok.ensures.calls).2)

pub returns-in-Ok-clause-calls : goal.returns-in-Ok-clause-calls
returns-in-Ok-clause-calls g c =
    let h = if_none _ _ c.requires.goes_on c.in-Ok.ensures.calls in
    let k = if_none _ _ (begun_goes_on _ _ _ h.2) c.run_turns.ensures.calls in
    (_, Called-append _ _ _ _ _ h.1 k.1, begins_and_runs _ h.2 k.2)

pub returns-in-Err-clause-calls : goal.returns-in-Err-clause-calls
returns-in-Err-clause-calls g c =
    let h = if_none _ _ c.requires.goes_on c.in-Err.ensures.calls in
    (h.0, h.1, begins_not _ h.2)
