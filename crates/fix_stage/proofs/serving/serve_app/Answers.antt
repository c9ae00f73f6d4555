use Rattle.std.proofs.lemmas.Result.{err_from_is_err_and}
use Rattle.fix_outside.proofs.CallLemmas.{Called-append}
use Rattle.fix_stage.specs.Serving.{sends, withholds, not_withheld, not_asked}
use Rattle.fix_stage.proofs.RepeatLemmas.{may_split, kind_of_split}
use Rattle.fix_stage.proofs.ServingLemmas.{names_app}
use Rattle.fix_stage.proofs.serving.serve_app.Goals as goal

pub kind_and_rest-requires : goal.kind_and_rest-requires
kind_and_rest-requires g c = may_split _ _ c.requires.fetched.payload

pub again-requires : goal.again-requires
again-requires g c = kind_of_split _ _ _ c.kind_and_rest.ensures

pub returns-in-Send-clause-calls : goal.returns-in-Send-clause-calls
returns-in-Send-clause-calls g c =
    let h = rw c.get.ensures.value at c.close_and_repeat.ensures.calls in
    (_, Called-append _ _ _ _ _ c.in-Send.ensures.called h.1, sends h.2)

pub withhold-requires-clause-named : goal.withhold-requires-clause-named
withhold-requires-clause-named g c = names_app _ _ _ _ _ c.in-Withhold.ensures.called c.requires.fetched

pub returns-in_err-withhold-in-Withhold-clause-calls : goal.returns-in_err-withhold-in-Withhold-clause-calls
returns-in_err-withhold-in-Withhold-clause-calls g c =
    let p = err_from_is_err_and c.from_residual.result c.from_residual.ensures.1 in
    let h = c.in_err-withhold-in-Withhold.ensures.calls in
    rw (p.1, p.2) (_, Called-append _ _ _ _ _ c.in-Withhold.ensures.called h.1, not_withheld h.2)

pub returns-in_ok-withhold-in-Withhold-clause-calls : goal.returns-in_ok-withhold-in-Withhold-clause-calls
returns-in_ok-withhold-in-Withhold-clause-calls g c =
    let h = c.in_ok-withhold-in-Withhold.ensures.calls in
    rw (c.pass_over.ensures, c.get-in-Withhold.ensures.value) (_, Called-append _ _ _ _ _ c.in-Withhold.ensures.called h.1, withholds h.2)

pub returns-in-OutOfMemory-clause-calls : goal.returns-in-OutOfMemory-clause-calls
returns-in-OutOfMemory-clause-calls g c = (_, c.in-OutOfMemory.ensures.called, not_asked)
