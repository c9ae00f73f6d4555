use Rattle.fix_outside.proofs.CallLemmas.{Called-nil}
use Rattle.fix_machine.specs.Event as events
use Rattle.fix_session.specs.Turn.{logs_on, not_up, is_up}
use Rattle.fix_session.proofs.offering.offer.Goals as goal

pub returns-then-state-clause-calls : goal.returns-then-state-clause-calls
returns-then-state-clause-calls g c =
    let h = c.answer.ensures.calls in
    (h.0, h.1, logs_on c.if-state.true (h.2 _ events.is_first))

pub returns-in-Up-clause-calls : goal.returns-in-Up-clause-calls
returns-in-Up-clause-calls g c =
    let h = c.offer_draft.ensures.calls in
    (h.0, h.1, is_up c.if-state.false (rw c.state.ensures at c.in-Up.is) h.2)

pub returns-in-Down-clause-calls : goal.returns-in-Down-clause-calls
returns-in-Down-clause-calls g c = (_, Called-nil _, not_up c.if-state.false (λ up. let d = rw c.state.ensures at c.in-Down.is in cc))

pub returns-in-AwaitLogon-clause-calls : goal.returns-in-AwaitLogon-clause-calls
returns-in-AwaitLogon-clause-calls g c = (_, Called-nil _, not_up c.if-state.false (λ up. let d = rw c.state.ensures at c.in-AwaitLogon.is in cc))

pub returns-in-LogoutSent-clause-calls : goal.returns-in-LogoutSent-clause-calls
returns-in-LogoutSent-clause-calls g c = (_, Called-nil _, not_up c.if-state.false (λ up. let d = rw c.state.ensures at c.in-LogoutSent.is in cc))
