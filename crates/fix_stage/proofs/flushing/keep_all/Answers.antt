use Rattle.fix_stage.specs.Flush.{kept, keep_lost, keep_memory}
use Rattle.fix_stage.proofs.flushing.keep_all.Goals as goal

pub returns-in-Ok-clause-calls : goal.returns-in-Ok-clause-calls
returns-in-Ok-clause-calls g c =
    rw (c.let_go.ensures, c.count_kept.ensures, c.as_slice.ensures) (_, rw c.record_from.ensures at c.in-Ok.ensures.called, kept)

pub returns-in-Err-Failed-clause-calls : goal.returns-in-Err-Failed-clause-calls
returns-in-Err-Failed-clause-calls g c =
    rw c.note_lost.ensures (_, rw (c.in-Err-Failed.field-0-is, c.record_from.ensures) at c.in-Err-Failed.ensures.called, keep_lost)

pub returns-clause-calls : goal.returns-clause-calls
returns-clause-calls g c =
    rw c.unstage.ensures (_, rw (c.in-Err-OutOfMemory.field-0-is, c.record_from.ensures) at c.in-Err-OutOfMemory.ensures.called, keep_memory)
