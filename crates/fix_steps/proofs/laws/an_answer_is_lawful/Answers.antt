use Rattle.fix_steps.proofs.StepLeads.{carried_leads}
use Rattle.fix_steps.proofs.laws.an_answer_is_lawful.Goals as goal

pub returns : goal.returns
returns c = λ id read resets frame x n m steps to valid answered fit may.
    carried_leads id read resets valid frame x answered n m steps to may fit
