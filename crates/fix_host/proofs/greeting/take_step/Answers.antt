use Rattle.std.proofs.Common.{ap, refl, arith, length}
use Rattle.std.proofs.lemmas.List.{length-take}
use Rattle.fix_host.specs.Steps as steps
use Rattle.fix_host.proofs.GreetLemmas.{looked_after, step_taken}
use Rattle.fix_host.proofs.greeting.take_step.Goals as goal

pub returns-then-is_err-clause-step : goal.returns-then-is_err-clause-step
returns-then-is_err-clause-step g c = steps.refused c.reserve.ensures.ahead (ap g.L.Link.link c.reserve.ensures.inner) refl

pub outcome-requires : goal.outcome-requires
outcome-requires g c = looked_after _ _ _ _ _ c.args.from c.reserve.ensures.ahead c.read_ahead-turn.ensures.ahead c.ahead-2.ensures c.requires.looked

pub returns-clause-step : goal.returns-clause-step
returns-clause-step g c =
    step_taken _ _ _ c.now-now.result _ _ _ _ c.read_ahead-turn.new.room c.read_ahead-turn.result _ _ _ _ _ _ c.reserve.ensures.ahead (ap g.L.Link.link c.reserve.ensures.inner) c.read_ahead-turn.ensures.ahead c.ahead-2.ensures
    (omega (arith, c.read_ahead-turn.auto.room, c.room_for-most.ensures.most, ap length c.ahead.ensures, c.requires.room, length-take c.room_for-most.result c.args.room.now))
    c.read_ahead-turn.ensures.moves c.now-now.ensures.moves c.outcome.ensures
