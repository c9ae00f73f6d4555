use Rattle.fix_steps.proofs.RenewLeads.{renewed_leads}
use Rattle.fix_steps.proofs.laws.a_reset_is_answered_lawfully.Goals as goal

pub returns : goal.returns
returns c = λ id read answer frame x n m steps to valid heard answered fit may. renewed_leads id read valid frame x n answer steps to m heard answered may fit
