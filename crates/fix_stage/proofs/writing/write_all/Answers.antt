use Rattle.std.proofs.Common.{◌∙◌}
use Rattle.std.proofs.lemmas.Result.{err_from_is_err_and}
use Rattle.fix_stage.specs.Flush.{WroteOne}
use Rattle.fix_stage.proofs.FoldLemmas.{goes_on_at, stopped_at, finished_at}
use Rattle.fix_stage.proofs.writing.write_all.Goals as goal

pub returns-in_err-write_one-clause-calls : goal.returns-in_err-write_one-clause-calls
returns-in_err-write_one-clause-calls g c =
    let p = err_from_is_err_and c.from_residual.result c.from_residual.ensures.1 in
    rw (p.1, p.2) (stopped_at WroteOne _ _ _ _ _ _ _ _ c.frame-item.result _ c.loop-frame-test.true
    c.loop-frame.invariant.done (rw (← c.frame-item.is) c.in_err-write_one.ensures.calls))

pub loop-frame-preserved : goal.loop-frame-preserved
loop-frame-preserved g c = record {
  opens = c.in_ok-write_one.ensures.opens ∙ c.loop-frame.invariant.opens;
  done = goes_on_at WroteOne _ _ _ _ _ _ _ _ c.frame-item.result c.loop-frame-test.true c.loop-frame.invariant.done
      (rw (← c.frame-item.is) c.in_ok-write_one.ensures.calls);
}

pub returns-clause-calls : goal.returns-clause-calls
returns-clause-calls g c = finished_at WroteOne _ _ _ _ _ _ c.loop-frame-test.false c.loop-frame.invariant.done
