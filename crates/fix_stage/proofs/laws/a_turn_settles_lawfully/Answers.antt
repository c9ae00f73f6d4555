use Rattle.fix_stage.proofs.StagingLeads.{settled_leads}
use Rattle.fix_stage.proofs.laws.a_turn_settles_lawfully.Goals as goal

pub returns : goal.returns
returns c = settled_leads
