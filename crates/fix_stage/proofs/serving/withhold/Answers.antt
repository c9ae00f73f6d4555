use Rattle.fix_stage.specs.Serving.{withheld_kept, withheld_lost, withheld_memory}
use Rattle.fix_stage.proofs.serving.withhold.Goals as goal

pub returns-in-Ok-clause-calls : goal.returns-in-Ok-clause-calls
returns-in-Ok-clause-calls g c = (_, rw c.get.ensures.value at c.in-Ok.ensures.called, withheld_kept)

pub returns-in-Err-Failed-clause-calls : goal.returns-in-Err-Failed-clause-calls
returns-in-Err-Failed-clause-calls g c =
    (_, rw (c.in-Err-Failed.field-0-is, c.get.ensures.value) at c.in-Err-Failed.ensures.called, withheld_lost)

pub returns-clause-calls : goal.returns-clause-calls
returns-clause-calls g c =
    (_, rw (c.in-Err-OutOfMemory.field-0-is, c.get.ensures.value) at c.in-Err-OutOfMemory.ensures.called, withheld_memory)
