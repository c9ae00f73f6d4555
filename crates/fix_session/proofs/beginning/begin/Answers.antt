use Rattle.fix_outside.proofs.CallLemmas.{Called-append}
use Rattle.fix_stage.specs.Combine.{first_ends, both, goes_well, fails}
use Rattle.fix_session.proofs.beginning.begin.Goals as goal

pub returns-in-Ok-clause-calls : goal.returns-in-Ok-clause-calls
returns-in-Ok-clause-calls g c =
    let h = c.in-Ok.ensures.calls in
    let k = c.ask_and_open.ensures.calls in
    (_, Called-append _ _ _ _ _ h.1 k.1, both (goes_well h.2) k.2)

pub returns-in-Err-clause-calls : goal.returns-in-Err-clause-calls
returns-in-Err-clause-calls g c =
    let h = c.in-Err.ensures.calls in
    (h.0, h.1, first_ends (fails h.2))
