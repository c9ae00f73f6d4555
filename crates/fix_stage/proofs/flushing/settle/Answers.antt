use Rattle.fix_stage.specs.Flush.{Settled}
use Rattle.fix_stage.proofs.SendingLemmas.{Settled-blames, Settled-so, caused}
use Rattle.fix_stage.proofs.flushing.settle.Goals as goal

pub returns-clause-calls : goal.returns-clause-calls
returns-clause-calls g c = rw c.due-expect.ensures.is at c.flush.ensures.calls

pub returns-clause-settled : goal.returns-clause-settled
returns-clause-settled g c = Settled-so _ _ _ _ c.requires.ready.range.expected (returns-clause-calls g c).2

pub returns-clause-cause : goal.returns-clause-cause
returns-clause-cause g c = caused Settled Settled-blames _ _ _ _ _ (returns-clause-calls g c)
