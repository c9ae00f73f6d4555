use Rattle.fix_engine.proofs.DraftSteps.{not_up}
use Rattle.fix_engine.proofs.drafting.send_draft.Goals as goal

pub returns-in-AwaitLogon-clause-notes : goal.returns-in-AwaitLogon-clause-notes
returns-in-AwaitLogon-clause-notes g c =
    let h = c.keep_draft.ensures.notes in
    let p = c.in-AwaitLogon.is in
    (h.0, h.1, not_up _ _ _ _ _ _ (λ up. cc) h.2)

pub returns-in-Down-clause-notes : goal.returns-in-Down-clause-notes
returns-in-Down-clause-notes g c =
    let h = c.keep_draft-in-Down.ensures.notes in
    let p = c.in-Down.is in
    (h.0, h.1, not_up _ _ _ _ _ _ (λ up. cc) h.2)
