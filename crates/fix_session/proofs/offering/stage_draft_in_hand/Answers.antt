use Rattle.std.proofs.lemmas.Result.{err_from_is_err_and}
use Rattle.fix_outside.proofs.CallLemmas.{Called-nil, Called-append}
use Rattle.fix_stage.specs.Combine.{first_ends, both}
use Rattle.fix_machine.specs.Event as events
use Rattle.fix_session.specs.Turn.{no_draft, drafts}
use Rattle.fix_session.proofs.EventLemmas.{wrote_other}
use Rattle.fix_session.proofs.offering.stage_draft_in_hand.Goals as goal

pub answer-requires-clause-other : goal.answer-requires-clause-other
answer-requires-clause-other g c = wrote_other _

pub returns-then-not-is_some-clause-calls : goal.returns-then-not-is_some-clause-calls
returns-then-not-is_some-clause-calls g c =
    (_, Called-nil _, no_draft (let a = c.is_some.ensures in let b = c.if-not-is_some.true in cc))

pub returns-in_err-send_pending-clause-calls : goal.returns-in_err-send_pending-clause-calls
returns-in_err-send_pending-clause-calls g c =
    let p = err_from_is_err_and c.from_residual.result c.from_residual.ensures.1 in
    let h = c.in_err-send_pending.ensures.calls in
    rw (p.1, p.2) (h.0, h.1, drafts (let a = c.is_some.ensures in let b = c.if-not-is_some.false in cc) (first_ends h.2))

pub returns-clause-calls : goal.returns-clause-calls
returns-clause-calls g c =
    let h = c.in_ok-send_pending.ensures.calls in
    let k = c.answer.ensures.calls in
    (_, Called-append _ _ _ _ _ h.1 k.1, drafts (let a = c.is_some.ensures in let b = c.if-not-is_some.false in cc) (both h.2 (k.2 _ (events.wrote _))))
