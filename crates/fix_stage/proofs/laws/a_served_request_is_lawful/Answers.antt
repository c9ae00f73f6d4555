use Rattle.fix_stage.proofs.ServingLeads.{served_leads}
use Rattle.fix_stage.proofs.laws.a_served_request_is_lawful.Goals as goal

pub returns : goal.returns
returns c = served_leads
