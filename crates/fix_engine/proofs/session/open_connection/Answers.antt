use Rattle.fix_base.proofs.SeenLemmas.{Trace-append}
use Rattle.fix_engine.specs.Run.{opened, no_reading, not_opened}
use Rattle.fix_engine.proofs.session.open_connection.Goals as goal

pub returns-in-Ok-mark-clause-notes : goal.returns-in-Ok-mark-clause-notes
returns-in-Ok-mark-clause-notes g c = (_, Trace-append _ _ _ _ _ c.in-Ok.ensures.noted c.in-Ok-mark.ensures.noted, opened _)

pub returns-in-Err-mark-clause-notes : goal.returns-in-Err-mark-clause-notes
returns-in-Err-mark-clause-notes g c = (_, Trace-append _ _ _ _ _ c.in-Ok.ensures.noted c.in-Err-mark.ensures.noted, not_opened _)

pub returns-in-Err-clause-notes : goal.returns-in-Err-clause-notes
returns-in-Err-clause-notes g c = (_, c.in-Err.ensures.noted, no_reading)
