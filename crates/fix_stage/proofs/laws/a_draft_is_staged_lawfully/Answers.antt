use Rattle.fix_stage.proofs.StagingLeads.{pending_leads}
use Rattle.fix_stage.proofs.laws.a_draft_is_staged_lawfully.Goals as goal

pub returns : goal.returns
returns c = pending_leads
