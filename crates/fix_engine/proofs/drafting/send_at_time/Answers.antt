use Rattle.fix_base.proofs.SeenLemmas.{Trace-append}
use Rattle.fix_engine.specs.Drafted.{no_reading, at_time}
use Rattle.fix_engine.proofs.drafting.send_at_time.Goals as goal

pub returns-in-Ok-clause-notes : goal.returns-in-Ok-clause-notes
returns-in-Ok-clause-notes g c =
    let h = rw c.take_reading.ensures.taken at c.send_draft.ensures.notes in
    (_, Trace-append _ _ _ _ _ c.in-Ok.ensures.noted h.1, at_time _ h.2)

pub returns-in-Err-clause-notes : goal.returns-in-Err-clause-notes
returns-in-Err-clause-notes g c = (_, c.in-Err.ensures.noted, no_reading)
