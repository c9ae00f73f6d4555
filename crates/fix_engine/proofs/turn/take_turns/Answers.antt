use Rattle.std.proofs.lemmas.Result.{err_from_is_err_and}
use Rattle.fix_engine.specs.Turn.{OneTurn}
use Rattle.fix_engine.proofs.FoldLemmas.{count_started, counts_on, count_stopped, count_finished}
use Rattle.fix_engine.proofs.turn.take_turns.Goals as goal

pub returns-in_err-turn-clause-notes : goal.returns-in_err-turn-clause-notes
returns-in_err-turn-clause-notes g c =
    let p = err_from_is_err_and c.from_residual.result c.from_residual.ensures.1 in
    rw (p.1, p.2) (count_stopped (OneTurn c.args.context.now.identity) _ _ _ _ _ _ _ _ _ c.loop-done-test.true
    c.loop-done.invariant.done c.in_err-turn.ensures.notes)

pub loop-done-init : goal.loop-done-init
loop-done-init g c = record {
  ready = c.requires.ready;
  done = count_started (OneTurn c.args.context.now.identity) _ _ _;
}

pub loop-done-preserved : goal.loop-done-preserved
loop-done-preserved g c = record {
  ready = c.in_ok-turn.ensures.ready;
  done = counts_on (OneTurn c.args.context.now.identity) _ _ _ _ _ _ _ _ c.loop-done-test.true
      c.loop-done.invariant.done c.in_ok-turn.ensures.notes;
}

pub returns-clause-notes : goal.returns-clause-notes
returns-clause-notes g c = count_finished (OneTurn c.args.context.now.identity) _ _ _ _ _ _ c.loop-done-test.false
    c.loop-done.invariant.done
