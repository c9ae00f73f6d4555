use Rattle.fix_steps.specs.Resetting.{reset_kept, reset_lost, reset_memory}
use Rattle.fix_steps.proofs.resetting.reset.Goals as goal

pub returns-in-Ok-clause-calls : goal.returns-in-Ok-clause-calls
returns-in-Ok-clause-calls g c = rw c.begin_anew.ensures (_, c.in-Ok.ensures.called, reset_kept)

pub returns-in-Err-Failed-clause-calls : goal.returns-in-Err-Failed-clause-calls
returns-in-Err-Failed-clause-calls g c = (_, rw c.in-Err-Failed.field-0-is at c.in-Err-Failed.ensures.called, reset_lost)

pub returns-clause-calls : goal.returns-clause-calls
returns-clause-calls g c = (_, rw c.in-Err-OutOfMemory.field-0-is at c.in-Err-OutOfMemory.ensures.called, reset_memory)
