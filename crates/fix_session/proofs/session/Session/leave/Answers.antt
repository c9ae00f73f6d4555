use Rattle.std.proofs.Common.{arith}
use Rattle.fix_outside.proofs.CallLemmas.{Called-nil}
use Rattle.fix_session.specs.Session.{spent, sends}
use Rattle.fix_session.specs.Send.{logout_posting}
use Rattle.fix_session.proofs.SendLemmas.{logout_counts, none_left, sent_rest, stopped_down, send_caused}
use Rattle.fix_session.proofs.session.Session.leave.Goals as goal

pub returns-in_default-new-clause-calls : goal.returns-in_default-new-clause-calls
returns-in_default-new-clause-calls g c = rw (← c.self.view_is, c.in_default.is) (_, Called-nil _, spent (none_left _ (c.in_default-new.ensures)))

pub invariant_of-self : goal.invariant_of-self
invariant_of-self g c =
    let h = c.send_logout-posted.ensures.calls in (
      c.self.invariant.0,
      sent_rest _ _ _ (logout_posting c.self.inside.context.identity) c.self.inside.work.state _ _ _ (logout_counts c.self.inside.context.identity c.self.inside.work.state (rw (← c.self.view_is, c.in_default.is) at c.requires.phase)) c.self.invariant.1 h.2 c.send_logout-posted.ensures.sound,
      c.self.invariant.2,
      rw (c.send_stop-self-inside.ensures, c.send_end-sent.ensures) (stopped_down _ _ _ _ _ _ _ h.2),
    )

pub returns-clause-calls : goal.returns-clause-calls
returns-clause-calls g c =
    let h = c.send_logout-posted.ensures.calls in
    let n = c.in-Some-new.ensures in
    rw (← c.self.view_is, c.in_default.is, c.send_stop-self-inside.ensures, c.send_end-sent.ensures, n.1) (h.0, h.1, sends _ (omega (arith, n.0.1)) h.2)

pub returns-clause-cause : goal.returns-clause-cause
returns-clause-cause g c =
    rw (← c.self.view_is, c.in_default.is, c.send_end-sent.ensures) (send_caused _ _ _ _ _ _ _ _ c.send_logout-posted.ensures.calls)
