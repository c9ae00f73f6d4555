use Rattle.fix_outside.proofs.CallLemmas.{Called-append}
use Rattle.fix_machine.specs.Event as events
use Rattle.fix_session.specs.Turn.{looks, look_memory}
use Rattle.fix_session.proofs.turn.look.Goals as goal

pub returns-in-Ok-clause-calls : goal.returns-in-Ok-clause-calls
returns-in-Ok-clause-calls g c =
    let h = c.answer.ensures.calls in
    (_, Called-append _ _ _ _ _ c.in-Ok.ensures.called h.1, looks _ (rw c.take_reading.ensures.taken at (h.2 _ (events.looks _ _))))

pub returns-in-Err-clause-calls : goal.returns-in-Err-clause-calls
returns-in-Err-clause-calls g c = (_, c.in-Err.ensures.called, look_memory _)
