use Rattle.std.proofs.Common.{sym, subst, ap, arith}
use Rattle.std.specs.Prelude.{IsSome}
use Rattle.std.specs.FinMap as map
use Rattle.fix_resend.proofs.WaitingLemmas.{some_of, fewer_frames}
use Rattle.fix_session.specs.State.{AreWaiting}
use Rattle.fix_session.proofs.WaitsLemmas.{waiting_from, waiting_removed}
use Rattle.fix_session.proofs.waiting.take_due.Goals as goal

pub returns-in-None-clause-waiting : goal.returns-in-None-clause-waiting
returns-in-None-clause-waiting c = subst (λ w. AreWaiting w) (sym c.drop_below.ensures.rest) (waiting_from _ _ c.requires.waiting)

pub returns-in-Some-clause-waiting : goal.returns-in-Some-clause-waiting
returns-in-Some-clause-waiting c =
    subst (λ w. AreWaiting w) (sym c.take.ensures.rest)
    (waiting_removed _ _ (subst (λ w. AreWaiting w) (sym c.drop_below.ensures.rest) (waiting_from _ _ c.requires.waiting)))

pub returns-in-None-clause-fewer : goal.returns-in-None-clause-fewer
returns-in-None-clause-fewer c = λ some. cc

pub returns-in-Some-clause-fewer : goal.returns-in-Some-clause-fewer
returns-in-Some-clause-fewer c = λ some.
    let found = some_of _ (subst (λ o. IsSome o) c.take.ensures.frame some) in
    omega (arith, ap map.len c.take.ensures.rest, fewer_frames _ _ found.0 found.1, c.drop_below.ensures.fewer)
