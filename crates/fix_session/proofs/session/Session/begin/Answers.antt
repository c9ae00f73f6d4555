use Rattle.std.proofs.Common.{◌∙◌}
use Rattle.fix_outside.proofs.CallLemmas.{Called-nil}
use Rattle.fix_session.specs.Session.{no_reader, begins_to, begins_not}
use Rattle.fix_session.proofs.BeginLemmas.{quiet, at_rest, begins_quiet, not_begun, begin_caused}
use Rattle.fix_session.proofs.session.Session.begin.Goals as goal

pub returns-in_default-new-clause-calls : goal.returns-in_default-new-clause-calls
returns-in_default-new-clause-calls g c = rw (← c.self.view_is, c.in_default.is) (_, Called-nil _, no_reader)

pub invariant_of-self-in-Ok-begin : goal.invariant_of-self-in-Ok-begin
invariant_of-self-in-Ok-begin g c = (
  c.self.invariant.0,
  at_rest _ c.in-Ok-begin.ensures.range (begins_quiet _ _ _ _ _ _ c.in-Ok-begin.ensures.calls.2 (quiet _ c.self.invariant.1)),
  c.self.invariant.2,
  rw c.in_default.is tt,
)

pub invariant_of-self-in-Err-begin : goal.invariant_of-self-in-Err-begin
invariant_of-self-in-Err-begin g c = (
  c.self.invariant.0,
  at_rest _ c.in-Err.ensures.range (begins_quiet _ _ _ _ _ _ c.in-Err.ensures.calls.2 (quiet _ c.self.invariant.1)),
  c.self.invariant.2,
  not_begun _ _ _ _ _ _ c.in-Err.ensures.calls.2 ∙ (rw (← c.self.view_is, c.in_default.is) at c.requires.phase),
)

pub returns-in-Ok-begin-clause-calls : goal.returns-in-Ok-begin-clause-calls
returns-in-Ok-begin-clause-calls g c =
    let h = c.in-Ok-begin.ensures.calls in
    rw (← c.self.view_is, c.in_default.is, c.in-Ok.ensures) (h.0, h.1, begins_to h.2)

pub returns-in-Err-clause-calls : goal.returns-in-Err-clause-calls
returns-in-Err-clause-calls g c =
    let h = c.in-Err.ensures.calls in
    rw (← c.self.view_is, c.in_default.is, c.begin_stop.ensures) (h.0, h.1, begins_not _ h.2)

pub returns-in-Err-clause-cause : goal.returns-in-Err-clause-cause
returns-in-Err-clause-cause g c = rw (← c.self.view_is, c.in_default.is) (begin_caused _ _ _ _ _ _ _ c.in-Err.ensures.calls)
