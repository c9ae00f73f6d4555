use Rattle.std.proofs.Common.{rules, ◌≡◌, subst, arith}
use Rattle.fix_host.specs.Looking.{IsLookedTo}
use Rattle.fix_host.specs.Greet.{IsUndecided, Decides}
use Rattle.fix_host.proofs.GreetLemmas.{so_far, at_first, goes_on, looked_at, ends, gives_up, turns_spent}
use Rattle.fix_host.proofs.greeting.greet.Goals as goal

pub returns-in-Ends : goal.returns-in-Ends
returns-in-Ends g c =
    at_first _ _ _ _ _ _ _ _ _ c.now-since.ensures.moves (subst (λ bytes. Decides c.args.known.now bytes c.in-Ends.answer) c.ahead.ensures c.in-Ends.ensures)

pub returns-in_default : goal.returns-in_default
returns-in_default g c =
    gives_up _ _ _ _ 0 _ _ _ _ _ _ (omega arith) (so_far _ _ _ _ _ _ c.now-since.ensures.moves (subst IsUndecided c.ahead.ensures c.in-GoesOn.ensures.0))

pub loop-taken-init : goal.loop-taken-init
loop-taken-init g c = record {
  so_far = so_far _ _ _ _ _ _ c.now-since.ensures.moves (subst IsUndecided c.ahead.ensures c.in-GoesOn.ensures.0);
  looked = subst (λ bytes. IsLookedTo bytes c.in-GoesOn.place) c.ahead.ensures c.in-GoesOn.ensures.1;
  undecided = subst IsUndecided c.ahead.ensures c.in-GoesOn.ensures.0;
  room = search rules;
}

pub take_step-requires-clause-undecided : goal.take_step-requires-clause-undecided
take_step-requires-clause-undecided g c = c.loop-taken.invariant.undecided

pub take_step-requires-clause-looked : goal.take_step-requires-clause-looked
take_step-requires-clause-looked g c = c.loop-taken.invariant.looked

pub returns-in-Ends-take_step : goal.returns-in-Ends-take_step
returns-in-Ends-take_step g c =
    ends _ _ _ _ _ _ _ _ _ _ _ _ _ _ _ (omega (arith, c.loop-taken-test.true)) c.loop-taken.invariant.so_far c.in-Ends-take_step.ensures.step

pub loop-taken-preserved : goal.loop-taken-preserved
loop-taken-preserved g c =
    let step = c.in-GoesOn-take_step.ensures.step in
    let looked = looked_at _ _ _ _ _ _ _ _ _ _ step in
    record {
      so_far = goes_on _ _ _ _ _ _ _ _ _ _ _ _ _ _ c.loop-taken.invariant.so_far step;
      looked = looked.1;
      undecided = looked.0;
      room = c.loop-taken.invariant.room;
    }

pub returns : goal.returns
returns g c =
    let all : c.loop-taken.taken ≡ c.args.turns = omega (arith, c.loop-taken-test.false, c.loop-taken.auto.taken-end) in
    turns_spent _ _ _ _ _ _ _ _ _ _ _ all c.loop-taken.invariant.so_far
