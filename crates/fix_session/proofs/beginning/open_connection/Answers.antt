use Rattle.fix_machine.specs.Event as events
use Rattle.fix_session.specs.Begin.{opened, open_memory}
use Rattle.fix_session.proofs.beginning.open_connection.Goals as goal

pub returns-in-Ok-clause-calls : goal.returns-in-Ok-clause-calls
returns-in-Ok-clause-calls g c =
    (_, c.in-Ok.ensures.called, rw (c.decide.ensures.next _ (events.begins _ _), c.none_waiting.ensures, c.is_initiator-state.ensures) opened)

pub returns-in-Err-clause-calls : goal.returns-in-Err-clause-calls
returns-in-Err-clause-calls g c = (_, c.in-Err.ensures.called, open_memory _)
