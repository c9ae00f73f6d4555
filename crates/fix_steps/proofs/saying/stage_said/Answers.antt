use Rattle.fix_outside.proofs.CallLemmas.{Called-nil}
use Rattle.fix_stage.specs.Staging.{made, not_made}
use Rattle.fix_steps.proofs.SaidLemmas.{said_is_outgoing}
use Rattle.fix_steps.proofs.saying.stage_said.Goals as goal

pub returns-in_default-clause-calls : goal.returns-in_default-clause-calls
returns-in_default-clause-calls g c = (_, Called-nil _, not_made)

pub stage-requires-clause-outgoing : goal.stage-requires-clause-outgoing
stage-requires-clause-outgoing g c = rw (c.type_of-kind.ensures, c.about_of.ensures, c.as_slice.ensures, c.in-Ok.ensures.text)
    (said_is_outgoing _ _ _ c.requires.ready.range.reading c.requires.sayable)

pub returns-clause-calls : goal.returns-clause-calls
returns-clause-calls g c =
    let h = rw (c.type_of-kind.ensures, c.about_of.ensures, c.as_slice.ensures, c.in-Ok.ensures.text) at c.stage.ensures.calls in
    (h.0, h.1, made h.2)
