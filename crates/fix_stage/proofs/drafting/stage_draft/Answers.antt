use Rattle.fix_outside.proofs.CallLemmas.{Called-nil}
use Rattle.fix_stage.specs.Staging.{MakesAndStages, made, not_made}
use Rattle.fix_stage.proofs.OutgoingLemmas.{draft_is_outgoing}
use Rattle.fix_stage.proofs.SendingLemmas.{MakesAndStages-blames, caused}
use Rattle.fix_stage.proofs.drafting.stage_draft.Goals as goal

pub returns-in_default-clause-calls : goal.returns-in_default-clause-calls
returns-in_default-clause-calls g c = (_, Called-nil _, not_made)

pub stage-requires-clause-outgoing : goal.stage-requires-clause-outgoing
stage-requires-clause-outgoing g c = rw (c.in-Ok.ensures, c.kind.ensures.text, c.rest.ensures.text)
    (draft_is_outgoing _ _ _ c.requires.ready.range.reading c.kind.ensures.is)

pub returns-clause-calls : goal.returns-clause-calls
returns-clause-calls g c =
    let h = rw (c.in-Ok.ensures, c.kind.ensures.text, c.rest.ensures.text) at c.stage.ensures.calls in
    (h.0, h.1, made h.2)

pub returns-in_default-clause-cause : goal.returns-in_default-clause-cause
returns-in_default-clause-cause g c = caused (MakesAndStages _ _) (MakesAndStages-blames _ _) _ _ _ _ _ (returns-in_default-clause-calls g c)

pub returns-clause-cause : goal.returns-clause-cause
returns-clause-cause g c = caused (MakesAndStages _ _) (MakesAndStages-blames _ _) _ _ _ _ _ (returns-clause-calls g c)
