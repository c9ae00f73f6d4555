use Rattle.fix_outside.proofs.CallLemmas.{Called-append}
use Rattle.fix_session.specs.Turn.{asks, in_hand}
use Rattle.fix_session.proofs.offering.offer_draft.Goals as goal

pub returns-then-is_some-clause-calls : goal.returns-then-is_some-clause-calls
returns-then-is_some-clause-calls g c =
    let h = c.stage_draft_in_hand.ensures.calls in
    (h.0, h.1, in_hand (let a = c.is_some.ensures in let b = c.if-is_some.true in cc) h.2)

pub returns-clause-calls : goal.returns-clause-calls
returns-clause-calls g c =
    let h = c.stage_draft_in_hand-2.ensures.calls in
    (_, Called-append _ _ _ _ _ c.ask.ensures.called h.1, asks _ (let a = c.is_some.ensures in let b = c.if-is_some.false in cc) h.2)
