use Rattle.std.proofs.Common.{arith}
use Rattle.std.proofs.lemmas.Result.{err_from_is_err_and}
use Rattle.fix_stage.proofs.FoldLemmas.{count_started, counts_on, count_stopped, count_finished}
use Rattle.fix_session.specs.Judged.{rules_seen}
use Rattle.fix_session.specs.Turn.{OneTurn}
use Rattle.fix_session.proofs.turn.take_turns.Goals as goal

pub returns-in_err-turn-clause-calls : goal.returns-in_err-turn-clause-calls
returns-in_err-turn-clause-calls g c =
    let p = err_from_is_err_and c.from_residual.result c.from_residual.ensures.1 in
    rw (p.1, p.2) (count_stopped (OneTurn c.args.context.now.identity (rules_seen c.args.rules.now)) _ _ _ _ _ _ _ _ _ c.loop-done-test.true
    c.loop-done.invariant.done c.in_err-turn.ensures.calls)

pub loop-done-init : goal.loop-done-init
loop-done-init g c = record {
  kept = λ some. absurd (omega (arith, some));
  workable = c.requires.workable;
  done = count_started (OneTurn c.args.context.now.identity (rules_seen c.args.rules.now)) _ _ _;
}

pub loop-done-preserved : goal.loop-done-preserved
loop-done-preserved g c = record {
  kept = λ some. c.in_ok-turn.ensures.kept;
  workable = c.in_ok-turn.ensures.workable;
  done = counts_on (OneTurn c.args.context.now.identity (rules_seen c.args.rules.now)) _ _ _ _ _ _ _ _ c.loop-done-test.true
      c.loop-done.invariant.done c.in_ok-turn.ensures.calls;
}

pub returns-clause-calls : goal.returns-clause-calls
returns-clause-calls g c = count_finished (OneTurn c.args.context.now.identity (rules_seen c.args.rules.now)) _ _ _ _ _ _ c.loop-done-test.false
    c.loop-done.invariant.done

pub returns-in_err-turn-clause-kept : goal.returns-in_err-turn-clause-kept
returns-in_err-turn-clause-kept g c =
    let p = err_from_is_err_and c.from_residual.result c.from_residual.ensures.1 in
    rw (p.1, p.2) (λ some. c.in_err-turn.ensures.kept)

pub returns-clause-kept : goal.returns-clause-kept
returns-clause-kept g c = λ some. c.loop-done.invariant.kept (omega (arith, some, c.loop-done-test.false))
