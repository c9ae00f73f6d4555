use Rattle.std.proofs.Common.{sym, ◌∙◌}
use Rattle.fix_outside.proofs.CallLemmas.{Called-nil}
use Rattle.fix_stage.specs.Combine.{goes_well, fails}
use Rattle.fix_steps.specs.Steps.{flushes, at_once}
use Rattle.fix_steps.proofs.carrying.begin.Goals as goal

pub returns-then-not-begins_with_a_flush-clause-calls : goal.returns-then-not-begins_with_a_flush-clause-calls
returns-then-not-begins_with_a_flush-clause-calls g c =
    (_, Called-nil _, at_once (sym c.begins_with_a_flush.ensures ∙ c.if-not-begins_with_a_flush.true))

pub returns-in-Ok-clause-calls : goal.returns-in-Ok-clause-calls
returns-in-Ok-clause-calls g c =
    let h = c.in-Ok.ensures.calls in
    (h.0, h.1, flushes (sym c.begins_with_a_flush.ensures ∙ c.if-not-begins_with_a_flush.false) (goes_well h.2))

pub returns-in-Err-clause-calls : goal.returns-in-Err-clause-calls
returns-in-Err-clause-calls g c =
    let h = c.in-Err.ensures.calls in
    rw c.ending_of.ensures
    (h.0, h.1, flushes (sym c.begins_with_a_flush.ensures ∙ c.if-not-begins_with_a_flush.false) (fails h.2))
