use Rattle.fix_base.proofs.SeenLemmas.{Trace-append}
use Rattle.fix_engine.specs.Answer.{sent, write_lost, write_memory}
use Rattle.fix_engine.proofs.outbound.send.Goals as goal

pub returns-in-Done-clause-notes : goal.returns-in-Done-clause-notes
returns-in-Done-clause-notes g c frame = (
  _,
  Trace-append _ _ _ _ _ (rw c.record_of.ensures at c.in-Ok-keep.ensures.noted)
      (rw c.as_slice.ensures at c.in-Done.ensures.noted),
  sent _ _ _ c.if-state-ge-LAST_SEQ_NUM.false c.in-Ok.ensures,
)

pub returns-in-Failed-clause-notes : goal.returns-in-Failed-clause-notes
returns-in-Failed-clause-notes g c frame = rw c.count.ensures.counted (
  _,
  Trace-append _ _ _ _ _ (rw c.record_of.ensures at c.in-Ok-keep.ensures.noted)
      (rw c.as_slice.ensures at c.in-Failed.ensures.noted),
  write_lost _ _ _ _ c.if-state-ge-LAST_SEQ_NUM.false c.in-Ok.ensures,
)

pub returns-clause-notes : goal.returns-clause-notes
returns-clause-notes g c frame = (
  _,
  Trace-append _ _ _ _ _ (rw c.record_of.ensures at c.in-Ok-keep.ensures.noted) c.in-OutOfMemory.ensures.noted,
  write_memory _ _ c.if-state-ge-LAST_SEQ_NUM.false,
)
