use Rattle.fix_outside.proofs.CallLemmas.{Called-nil}
use Rattle.fix_stage.specs.Serving.{no_gap, gap_written, gap_memory}
use Rattle.fix_stage.proofs.serving.close_gap.Goals as goal

pub returns-then-from-eq0-clause-calls : goal.returns-then-from-eq0-clause-calls
returns-then-from-eq0-clause-calls g c = (_, Called-nil _, no_gap c.if-from-eq0.true)

pub returns-in_default-clause-calls : goal.returns-in_default-clause-calls
returns-in_default-clause-calls g c = (_, Called-nil _, gap_memory c.if-from-eq0.false)

pub returns-clause-calls : goal.returns-clause-calls
returns-clause-calls g c =
    let h = c.write_one.ensures.calls in
    (h.0, h.1, gap_written _ c.if-from-eq0.false c.in-Ok.ensures h.2)
