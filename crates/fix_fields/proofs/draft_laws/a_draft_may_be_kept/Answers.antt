use Rattle.fix_fields.proofs.DraftBodies.{draft_payload}
use Rattle.fix_fields.proofs.draft_laws.a_draft_may_be_kept.Goals as goal

pub returns : goal.returns
returns c = λ draft time h fits. draft_payload draft time h fits
