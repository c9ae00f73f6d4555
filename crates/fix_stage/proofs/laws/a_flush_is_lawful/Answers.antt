use Rattle.fix_stage.proofs.FlushLeads.{flushed_leads}
use Rattle.fix_stage.proofs.laws.a_flush_is_lawful.Goals as goal

pub returns : goal.returns
returns c = flushed_leads
