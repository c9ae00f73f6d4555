use Rattle.std.proofs.Common.{sym, ◌∙◌}
use Rattle.std.proofs.lemmas.Result.{err_from_is_err_and}
use Rattle.fix_outside.proofs.CallLemmas.{Called-append}
use Rattle.fix_stage.specs.Combine.{goes_well, fails}
use Rattle.fix_session.proofs.KeptLemmas.{any_kept, none_kept}
use Rattle.fix_session.specs.Turn as turns
use Rattle.fix_session.proofs.turn.turn.Goals as goal

pub returns-in_err-settle_all-clause-calls : goal.returns-in_err-settle_all-clause-calls
returns-in_err-settle_all-clause-calls g c =
    let p = err_from_is_err_and c.from_residual.result c.from_residual.ensures.1 in
    let h = c.meet-met.ensures.calls in
    let k = c.in_err-settle_all.ensures.calls in
    rw (p.1, p.2) (_, Called-append _ _ _ _ _ h.1 k.1, turns.settles_not (sym c.settles.ensures ∙ c.if-settles.true) h.2 (fails k.2))

pub returns-in_ok-settle_all-clause-calls : goal.returns-in_ok-settle_all-clause-calls
returns-in_ok-settle_all-clause-calls g c =
    let h = c.meet-met.ensures.calls in
    let k = c.in_ok-settle_all.ensures.calls in
    (_, Called-append _ _ _ _ _ h.1 k.1, turns.settles (sym c.settles.ensures ∙ c.if-settles.true) h.2 (goes_well k.2))

pub returns-else-settles-clause-calls : goal.returns-else-settles-clause-calls
returns-else-settles-clause-calls g c =
    let h = c.meet-met.ensures.calls in
    (h.0, h.1, turns.stops (sym c.settles.ensures ∙ c.if-settles.false) h.2)

pub returns-in_err-settle_all-clause-kept : goal.returns-in_err-settle_all-clause-kept
returns-in_err-settle_all-clause-kept g c =
    let p = err_from_is_err_and c.from_residual.result c.from_residual.ensures.1 in
    rw (p.1, p.2) c.in_err-settle_all.ensures.kept

pub returns-in_ok-settle_all-clause-kept : goal.returns-in_ok-settle_all-clause-kept
returns-in_ok-settle_all-clause-kept g c = any_kept _ _ c.in_ok-settle_all.ensures.kept

pub returns-else-settles-clause-kept : goal.returns-else-settles-clause-kept
returns-else-settles-clause-kept g c = none_kept _ _ (sym c.settles.ensures ∙ c.if-settles.false)
