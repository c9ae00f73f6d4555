use Rattle.std.proofs.lemmas.Result.{err_from_is_err_and}
use Rattle.fix_stage.specs.Serving.{ServedOne}
use Rattle.fix_stage.proofs.FoldLemmas.{started}
use Rattle.fix_stage.proofs.ServingLemmas.{numbers_on, numbers_stopped, numbers_finished}
use Rattle.fix_stage.proofs.serving.serve_all.Goals as goal

pub returns-in_err-serve_one-clause-calls : goal.returns-in_err-serve_one-clause-calls
returns-in_err-serve_one-clause-calls g c =
    let p = err_from_is_err_and c.from_residual.result c.from_residual.ensures.1 in
    rw (p.1, p.2) (numbers_stopped (ServedOne c.args.context.now.identity c.args.sender.now.numbers.reading) _ _ _ _ _ _ _ _ _ _
    c.loop-number-test.true c.loop-number.invariant.done c.in_err-serve_one.ensures.calls)

pub loop-number-init : goal.loop-number-init
loop-number-init g c = record {
  ready = c.requires.ready;
  low = c.requires.open;
  done = started (ServedOne c.args.context.now.identity c.args.sender.now.numbers.reading) _ _ _;
}

pub loop-number-preserved : goal.loop-number-preserved
loop-number-preserved g c = record {
  ready = c.in_ok-serve_one.ensures.ready;
  low = c.in_ok-serve_one.ensures.open;
  done = numbers_on (ServedOne c.args.context.now.identity c.args.sender.now.numbers.reading) _ _ _ _ _ _ _ _ _
      c.loop-number-test.true c.loop-number.invariant.done c.in_ok-serve_one.ensures.calls;
}

pub returns-clause-calls : goal.returns-clause-calls
returns-clause-calls g c =
    numbers_finished (ServedOne c.args.context.now.identity c.args.sender.now.numbers.reading) _ _ _ _ _ _ _
    c.loop-number-test.false c.loop-number.invariant.done
