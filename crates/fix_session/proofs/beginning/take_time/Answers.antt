use Rattle.fix_session.specs.Begin.{took, time_memory}
use Rattle.fix_session.proofs.beginning.take_time.Goals as goal

pub returns-in-Ok-clause-calls : goal.returns-in-Ok-clause-calls
returns-in-Ok-clause-calls g c = rw c.take_reading.ensures.taken (_, c.in-Ok.ensures.called, took _)

pub returns-in-Err-clause-calls : goal.returns-in-Err-clause-calls
returns-in-Err-clause-calls g c = (_, c.in-Err.ensures.called, time_memory _)
