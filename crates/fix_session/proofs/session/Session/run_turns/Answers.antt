use Rattle.fix_session.specs.Session.{runs}
use Rattle.fix_session.proofs.RestLemmas.{run_rest, run_stops_down, run_down}
use Rattle.fix_session.proofs.session.Session.run_turns.Goals as goal

pub invariant_of-self : goal.invariant_of-self
invariant_of-self g c =
    let h = c.run.ensures.calls in
    let ready = c.run.ensures.workable in (
      c.self.invariant.0,
      run_rest _ _ _ _ _ _ _ _ _ h.2 c.self.invariant.1 ready.sound,
      ready.room,
      rw (c.run_stop-self-inside.ensures, c.run_end-answer.ensures) (run_stops_down _ _ _ _ _ _ _ (rw (← c.self.view_is, c.in_default.is) at c.requires.phase) h.2),
    )

pub returns-clause-calls : goal.returns-clause-calls
returns-clause-calls g c =
    let h = rw c.rules_from-rules.ensures at c.run.ensures.calls in
    rw (← c.self.view_is, c.in_default.is, c.run_stop-self-inside.ensures, c.run_end-answer.ensures) (h.0, h.1, runs _ h.2)

pub returns-clause-down : goal.returns-clause-down
returns-clause-down g c = rw (← c.self.view_is, c.run_end-answer.ensures) (run_down _ _ _ _ _ _ _ _ (rw (← c.self.view_is, c.in_default.is) at c.requires.phase) c.run.ensures.calls.2)
