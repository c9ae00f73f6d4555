use Rattle.std.proofs.lemmas.Result.{err_from_is_err_and}
use Rattle.fix_engine.proofs.FoldLemmas.{started, goes_on_at, stopped_at, finished_at}
use Rattle.fix_engine.proofs.performing.carry_out.Goals as goal

pub returns-in_err-perform-clause-notes : goal.returns-in_err-perform-clause-notes
returns-in_err-perform-clause-notes g c =
    let p = err_from_is_err_and c.from_residual.result c.from_residual.ensures.1 in
    rw (p.1, p.2) (stopped_at _ _ _ _ _ _ _ _ _ c.step-item.result _ c.loop-step-test.true c.loop-step.invariant.done
    (rw (← c.step-item.is) c.in_err-perform.ensures.notes))

pub loop-step-init : goal.loop-step-init
loop-step-init g c = record { ready = c.requires.ready; done = started _ _ _ _ }

pub loop-step-preserved : goal.loop-step-preserved
loop-step-preserved g c = record {
  ready = c.in_ok-perform.ensures.ready;
  done = goes_on_at _ _ _ _ _ _ _ _ _ c.step-item.result c.loop-step-test.true c.loop-step.invariant.done
      (rw (← c.step-item.is) c.in_ok-perform.ensures.notes);
}

pub returns-clause-notes : goal.returns-clause-notes
returns-clause-notes g c = finished_at _ _ _ _ _ _ _ c.loop-step-test.false c.loop-step.invariant.done
