use Rattle.fix_outside.proofs.CallLemmas.{Called-append}
use Rattle.fix_session.specs.Serve.{serves, not_ready}
use Rattle.fix_session.proofs.ServeLemmas.{if_none, ready_goes_on, ready_down, served_down, served_anew, served_caused}
use Rattle.fix_session.proofs.serving.session_thread.Goals as goal

pub begin_and_run-requires-clause-goes_on : goal.begin_and_run-requires-clause-goes_on
begin_and_run-requires-clause-goes_on g c = ready_goes_on _ _ _ c.in-Ok.ensures.calls.2

pub begin_and_run-requires-clause-phase : goal.begin_and_run-requires-clause-phase
begin_and_run-requires-clause-phase g c = ready_down _ _ _ _ c.requires.phase c.in-Ok.ensures.calls.2

pub begin_and_run-requires-clause-opens : goal.begin_and_run-requires-clause-opens
begin_and_run-requires-clause-opens g c = if_none _ _ (ready_goes_on _ _ _ c.in-Ok.ensures.calls.2) c.in-Ok.ensures.opens

pub returns-in-Ok-clause-calls : goal.returns-in-Ok-clause-calls
returns-in-Ok-clause-calls g c =
    let h = c.in-Ok.ensures.calls in
    let k = c.begin_and_run.ensures.calls in
    (_, Called-append _ _ _ _ _ h.1 k.1, serves h.2 k.2)

pub returns-in-Err-clause-calls : goal.returns-in-Err-clause-calls
returns-in-Err-clause-calls g c =
    let h = c.in-Err.ensures.calls in
    (h.0, h.1, not_ready _ h.2)

pub returns-in-Ok-clause-cause : goal.returns-in-Ok-clause-cause
returns-in-Ok-clause-cause g c = served_caused _ _ _ _ _ _ (returns-in-Ok-clause-calls g c)

pub returns-in-Err-clause-cause : goal.returns-in-Err-clause-cause
returns-in-Err-clause-cause g c = served_caused _ _ _ _ _ _ (returns-in-Err-clause-calls g c)

pub returns-in-Ok-clause-down : goal.returns-in-Ok-clause-down
returns-in-Ok-clause-down g c = served_down _ _ _ _ _ c.requires.phase (returns-in-Ok-clause-calls g c).2

pub returns-in-Err-clause-down : goal.returns-in-Err-clause-down
returns-in-Err-clause-down g c = served_down _ _ _ _ _ c.requires.phase (returns-in-Err-clause-calls g c).2

pub returns-in-Ok-clause-anew : goal.returns-in-Ok-clause-anew
returns-in-Ok-clause-anew g c = served_anew _ _ _ _ _ (returns-in-Ok-clause-calls g c).2
