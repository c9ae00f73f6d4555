use Rattle.fix_outside.proofs.CallLemmas.{Called-append}
use Rattle.fix_session.specs.Send.{posts}
use Rattle.fix_session.proofs.sending.send_draft.Goals as goal

pub returns-clause-calls : goal.returns-clause-calls
returns-clause-calls g c =
    let h = c.post_draft-posted.ensures.calls in
    let k = c.end.ensures.calls in
    (_, Called-append _ _ _ _ _ h.1 k.1, posts h.2 k.2)
