use Rattle.std.proofs.lemmas.Result.{err_from_is_err_and}
use Rattle.fix_outside.proofs.CallLemmas.{Called-append}
use Rattle.fix_stage.specs.Combine.{first_ends, both, goes_well, fails}
use Rattle.fix_session.proofs.turn.meet.Goals as goal

pub returns-in_err-offer-clause-calls : goal.returns-in_err-offer-clause-calls
returns-in_err-offer-clause-calls g c =
    let p = err_from_is_err_and c.from_residual.result c.from_residual.ensures.1 in
    let h = c.in_err-offer.ensures.calls in
    rw (p.1, p.2) (h.0, h.1, first_ends (fails h.2))

pub returns-clause-calls : goal.returns-clause-calls
returns-clause-calls g c =
    let h = c.in_ok-offer.ensures.calls in
    let k = c.read_and_look.ensures.calls in
    (_, Called-append _ _ _ _ _ h.1 k.1, both (goes_well h.2) k.2)
