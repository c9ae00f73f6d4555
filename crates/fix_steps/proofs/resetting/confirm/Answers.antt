use Rattle.fix_steps.specs.Resetting.{confirm_kept, confirm_lost, confirm_memory}
use Rattle.fix_steps.proofs.resetting.confirm.Goals as goal

pub returns-in-Ok-clause-calls : goal.returns-in-Ok-clause-calls
returns-in-Ok-clause-calls g c = (_, c.in-Ok.ensures.called, confirm_kept)

pub returns-in-Err-Failed-clause-calls : goal.returns-in-Err-Failed-clause-calls
returns-in-Err-Failed-clause-calls g c = (_, rw c.in-Err-Failed.field-0-is at c.in-Err-Failed.ensures.called, confirm_lost)

pub returns-in-Err-OutOfMemory-clause-calls : goal.returns-in-Err-OutOfMemory-clause-calls
returns-in-Err-OutOfMemory-clause-calls g c = (_, rw c.in-Err-OutOfMemory.field-0-is at c.in-Err-OutOfMemory.ensures.called, confirm_memory)
