use Rattle.fix_base.proofs.SeenLemmas.{Trace-nil}
use Rattle.fix_engine.specs.Turn.{not_cut, was_cut, no_memory_to_cut}
use Rattle.fix_engine.proofs.leaving.end_connection.Goals as goal

pub returns-then-not-cut-clause-notes : goal.returns-then-not-cut-clause-notes
returns-then-not-cut-clause-notes g c = rw c.if-not-cut.true (_, Trace-nil _, not_cut)

pub returns-in-Ok-clause-notes : goal.returns-in-Ok-clause-notes
returns-in-Ok-clause-notes g c = rw c.if-not-cut.false (_, c.in-Ok.ensures.noted, was_cut)

pub returns-in-Err-clause-notes : goal.returns-in-Err-clause-notes
returns-in-Err-clause-notes g c = rw c.if-not-cut.false (_, c.in-Err.ensures.noted, no_memory_to_cut _)
