use Rattle.std.proofs.lemmas.Result.{err_from_is_err_and}
use Rattle.fix_outside.proofs.CallLemmas.{Called-nil}
use Rattle.fix_stage.specs.Staging.{StagesPending, empty, draft_memory, not_staged, draft_staged}
use Rattle.fix_stage.proofs.SendingLemmas.{StagesPending-blames, caused}
use Rattle.fix_stage.proofs.drafting.stage_pending.Goals as goal

pub returns-in_default-clause-calls : goal.returns-in_default-clause-calls
returns-in_default-clause-calls g c = (_, Called-nil _, empty c.in_default.is)

pub returns-in_default-copy-clause-calls : goal.returns-in_default-copy-clause-calls
returns-in_default-copy-clause-calls g c = (_, Called-nil _, draft_memory _ c.in-Some.is)

pub returns-in_err-stage_draft-clause-calls : goal.returns-in_err-stage_draft-clause-calls
returns-in_err-stage_draft-clause-calls g c =
    let p = err_from_is_err_and c.from_residual.result c.from_residual.ensures.1 in
    let h = rw c.in-Ok.ensures at c.in_err-stage_draft.ensures.calls in
    rw (p.1, p.2) (h.0, h.1, not_staged _ c.in-Some.is h.2)

pub returns-clause-calls : goal.returns-clause-calls
returns-clause-calls g c =
    let h = rw c.in-Ok.ensures at c.in_ok-stage_draft.ensures.calls in
    (h.0, h.1, draft_staged _ c.in-Some.is h.2)

pub returns-in_default-clause-cause : goal.returns-in_default-clause-cause
returns-in_default-clause-cause g c = caused (StagesPending _) (StagesPending-blames _) _ _ _ _ _ (returns-in_default-clause-calls g c)

pub returns-in_default-copy-clause-cause : goal.returns-in_default-copy-clause-cause
returns-in_default-copy-clause-cause g c = caused (StagesPending _) (StagesPending-blames _) _ _ _ _ _ (returns-in_default-copy-clause-calls g c)

pub returns-in_err-stage_draft-clause-cause : goal.returns-in_err-stage_draft-clause-cause
returns-in_err-stage_draft-clause-cause g c = caused (StagesPending _) (StagesPending-blames _) _ _ _ _ _ (returns-in_err-stage_draft-clause-calls g c)

pub returns-clause-cause : goal.returns-clause-cause
returns-clause-cause g c = caused (StagesPending _) (StagesPending-blames _) _ _ _ _ _ (returns-clause-calls g c)
