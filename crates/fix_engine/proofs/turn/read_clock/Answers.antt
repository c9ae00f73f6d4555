use Rattle.fix_engine.specs.Reading.{now, now_memory}
use Rattle.fix_engine.specs.Turn.{beside}
use Rattle.fix_engine.proofs.turn.read_clock.Goals as goal

pub returns-in-Ok-clause-notes : goal.returns-in-Ok-clause-notes
returns-in-Ok-clause-notes g c = rw c.take_reading.ensures.taken (_, c.in-Ok.ensures.noted, beside (now _))

pub returns-in-Err-clause-notes : goal.returns-in-Err-clause-notes
returns-in-Err-clause-notes g c = (_, c.in-Err.ensures.noted, beside now_memory)
