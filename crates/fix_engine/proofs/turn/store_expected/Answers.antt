use Rattle.fix_base.proofs.SeenLemmas.{Trace-nil}
use Rattle.fix_engine.specs.Reading.{same, kept, expect_lost, expect_memory}
use Rattle.fix_engine.specs.Turn.{beside}
use Rattle.fix_engine.proofs.turn.store_expected.Goals as goal

pub returns-in-Ok-clause-notes : goal.returns-in-Ok-clause-notes
returns-in-Ok-clause-notes g c = (_, c.in-Ok.ensures.noted, beside (kept c.if-work.false))

pub returns-in-Err-Failed-clause-notes : goal.returns-in-Err-Failed-clause-notes
returns-in-Err-Failed-clause-notes g c =
    (_, rw c.in-Err-Failed.field-0-is at c.in-Err-Failed.ensures.noted, beside (expect_lost c.if-work.false))

pub returns-then-work-clause-notes : goal.returns-then-work-clause-notes
returns-then-work-clause-notes g c = (_, Trace-nil _, beside (same c.if-work.true))

pub returns-clause-notes : goal.returns-clause-notes
returns-clause-notes g c = (
  _,
  rw c.in-Err-OutOfMemory.field-0-is at c.in-Err-OutOfMemory.ensures.noted,
  beside (expect_memory c.if-work.false),
)
