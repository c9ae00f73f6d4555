use Rattle.fix_steps.proofs.CompleteLemmas.{carried_total, carried_resumes}
use Rattle.fix_steps.proofs.laws.what_is_out_of_memory_would_have_gone_on.Goals as goal

pub returns-clause-answer : goal.returns-clause-answer
returns-clause-answer c = carried_resumes

pub returns-clause-answer_ends : goal.returns-clause-answer_ends
returns-clause-answer_ends c = carried_total
