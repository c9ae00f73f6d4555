use Rattle.std.proofs.lemmas.Result.{err_from_is_err_and}
use Rattle.fix_outside.proofs.CallLemmas.{Called-append}
use Rattle.fix_stage.specs.Combine.{first_ends, both}
use Rattle.fix_stage.specs.Staging.{Staging}
use Rattle.fix_stage.proofs.SendingLemmas.{Staging-blames, caused}
use Rattle.fix_stage.proofs.staging.stage.Goals as goal

pub returns-in_err-number-clause-calls : goal.returns-in_err-number-clause-calls
returns-in_err-number-clause-calls g c =
    let p = err_from_is_err_and c.from_residual.result c.from_residual.ensures.1 in
    let h = c.in_err-number.ensures.calls in
    rw (p.1, p.2) (h.0, h.1, first_ends h.2)

pub returns-clause-calls : goal.returns-clause-calls
returns-clause-calls g c =
    let h = c.in_ok-number.ensures.calls in
    let k = c.make_room_and_put.ensures.calls in
    (_, Called-append _ _ _ _ _ h.1 k.1, both h.2 k.2)

pub returns-in_err-number-clause-cause : goal.returns-in_err-number-clause-cause
returns-in_err-number-clause-cause g c = caused (Staging _ _) (Staging-blames _ _) _ _ _ _ _ (returns-in_err-number-clause-calls g c)

pub returns-clause-cause : goal.returns-clause-cause
returns-clause-cause g c = caused (Staging _ _) (Staging-blames _ _) _ _ _ _ _ (returns-clause-calls g c)
