use Rattle.std.proofs.Common.{refl, sym, ◌∙◌, ap, arith}
use Rattle.std.specs.FinMap as map
use Rattle.fix_resend.proofs.WaitingLemmas.{drops_fewer, drops_from, from_all}
use Rattle.fix_resend.proofs.stash.Stash.drop_below.Goals as goal

pub loop-smaller : goal.loop-smaller
loop-smaller c = drops_fewer (c.loop-test.ensures.dropped refl)

pub loop-preserved : goal.loop-preserved
loop-preserved c =
    let d = c.loop-test.ensures.dropped refl in
    record { from = drops_from d ∙ c.loop.invariant.from; fewer = omega (arith, drops_fewer d, c.loop.invariant.fewer) }

pub returns-clause-rest : goal.returns-clause-rest
returns-clause-rest c =
    let none = c.loop-test.ensures.none refl in
    none.1 ∙ sym (from_all _ _ none.0) ∙ c.loop.invariant.from

pub returns-clause-fewer : goal.returns-clause-fewer
returns-clause-fewer c =
    let none = c.loop-test.ensures.none refl in
    omega (arith, ap map.len none.1, c.loop.invariant.fewer)

pub loop-init : goal.loop-init
loop-init c = record { from = refl; fewer = omega arith }
