use Rattle.fix_stage.proofs.StagingLeads.{staged_fits}
use Rattle.fix_stage.proofs.laws.a_message_is_staged_lawfully.Goals as goal

pub returns : goal.returns
returns c = staged_fits
