use Rattle.fix_outside.proofs.CallLemmas.{Called-nil}
use Rattle.fix_session.specs.Turn.{feeds, not_fed}
use Rattle.fix_session.proofs.turn.feed.Goals as goal

pub returns-in-Ok-clause-calls : goal.returns-in-Ok-clause-calls
returns-in-Ok-clause-calls g c =
    let h = rw (c.in-Ok.ensures.ok, c.deref.ensures.value) at c.receive_all.ensures.calls in
    (h.0, h.1, feeds h.2)

pub returns-in-Err-clause-calls : goal.returns-in-Err-clause-calls
returns-in-Err-clause-calls g c = rw c.in-Err.ensures.err (_, Called-nil _, not_fed)
