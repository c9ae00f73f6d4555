use Rattle.std.proofs.lemmas.Result.{err_from_is_err_and}
use Rattle.fix_outside.proofs.CallLemmas.{Called-append}
use Rattle.fix_stage.specs.Serving.{Served, serve_ends, serves}
use Rattle.fix_stage.proofs.SendingLemmas.{caused}
use Rattle.fix_stage.proofs.ServingLemmas.{Served-blames}
use Rattle.fix_stage.proofs.serving.serve.Goals as goal

pub returns-in_err-serve_all-clause-calls : goal.returns-in_err-serve_all-clause-calls
returns-in_err-serve_all-clause-calls g c =
    let p = err_from_is_err_and c.from_residual.result c.from_residual.ensures.1 in
    let h = rw c.last_asked-end.ensures.is at c.in_err-serve_all.ensures.calls in
    rw (p.1, p.2) (h.0, h.1, serve_ends h.2)

pub returns-clause-calls : goal.returns-clause-calls
returns-clause-calls g c =
    let h = rw c.last_asked-end.ensures.is at c.in_ok-serve_all.ensures.calls in
    let k = rw c.last_asked-end.ensures.is at c.close_gap.ensures.calls in
    (_, Called-append _ _ _ _ _ h.1 k.1, serves h.2 k.2)

pub returns-in_err-serve_all-clause-cause : goal.returns-in_err-serve_all-clause-cause
returns-in_err-serve_all-clause-cause g c =
    caused (Served _ _ _) (Served-blames _ _ _) _ _ _ _ _ (returns-in_err-serve_all-clause-calls g c)

pub returns-clause-cause : goal.returns-clause-cause
returns-clause-cause g c = caused (Served _ _ _) (Served-blames _ _ _) _ _ _ _ _ (returns-clause-calls g c)
