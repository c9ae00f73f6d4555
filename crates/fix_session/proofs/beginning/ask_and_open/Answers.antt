use Rattle.std.proofs.lemmas.Result.{err_from_is_err_and}
use Rattle.fix_outside.proofs.CallLemmas.{Called-append}
use Rattle.fix_stage.specs.Combine.{first_ends, both}
use Rattle.fix_session.proofs.beginning.ask_and_open.Goals as goal

pub returns-in_err-ask_for_reset-clause-calls : goal.returns-in_err-ask_for_reset-clause-calls
returns-in_err-ask_for_reset-clause-calls g c =
    let p = err_from_is_err_and c.from_residual.result c.from_residual.ensures.1 in
    let h = c.in_err-ask_for_reset.ensures.calls in
    rw (p.1, p.2) (h.0, h.1, first_ends h.2)

pub returns-clause-calls : goal.returns-clause-calls
returns-clause-calls g c =
    let h = c.in_ok-ask_for_reset.ensures.calls in
    let k = c.open_connection.ensures.calls in
    (_, Called-append _ _ _ _ _ h.1 k.1, both h.2 k.2)
