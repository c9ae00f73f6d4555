use Rattle.fix_outside.proofs.CallLemmas.{Called-nil}
use Rattle.fix_stage.specs.Flush.{no_frame, wrote, write_lost, write_memory}
use Rattle.fix_stage.proofs.writing.write_one.Goals as goal

pub returns-in-None-clause-calls : goal.returns-in-None-clause-calls
returns-in-None-clause-calls g c = rw c.in-None.is (_, Called-nil _, no_frame)

pub returns-in-Done-clause-calls : goal.returns-in-Done-clause-calls
returns-in-Done-clause-calls g c = rw c.in-Some.is (_, rw c.as_slice.ensures at c.in-Done.ensures.called, wrote _)

pub returns-in-Failed-clause-calls : goal.returns-in-Failed-clause-calls
returns-in-Failed-clause-calls g c = rw c.in-Some.is (_, rw c.as_slice.ensures at c.in-Failed.ensures.called, write_lost _ _)

pub returns-in-OutOfMemory-clause-calls : goal.returns-in-OutOfMemory-clause-calls
returns-in-OutOfMemory-clause-calls g c = rw c.in-Some.is (_, rw c.as_slice.ensures at c.in-OutOfMemory.ensures.called, write_memory _)
