use Rattle.fix_outside.proofs.CallLemmas.{Called-nil}
use Rattle.fix_machine.specs.Event as events
use Rattle.fix_session.specs.Answering as answering
use Rattle.fix_session.proofs.EventLemmas.{moved_other}
use Rattle.fix_session.proofs.answering.go_on.Goals as goal

pub returns-then-state-before-clause-calls : goal.returns-then-state-before-clause-calls
returns-then-state-before-clause-calls g c = (_, Called-nil _, answering.stays (rw c.state.ensures at c.if-state-before.true))

pub answer-requires-clause-other : goal.answer-requires-clause-other
answer-requires-clause-other g c = moved_other _

pub returns-clause-calls : goal.returns-clause-calls
returns-clause-calls g c =
    let h = c.answer.ensures.calls in
    (h.0, h.1, answering.moves (λ same. c.if-state-before.false (rw c.state.ensures same)) (h.2 _ (events.moves _)))
