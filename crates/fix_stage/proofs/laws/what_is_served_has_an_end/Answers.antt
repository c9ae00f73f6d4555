use Rattle.fix_stage.proofs.ServingLemmas.{served_resumes, served_total, served_stays}
use Rattle.fix_stage.proofs.laws.what_is_served_has_an_end.Goals as goal

pub returns-clause-goes_on : goal.returns-clause-goes_on
returns-clause-goes_on c = served_resumes

pub returns-clause-ends : goal.returns-clause-ends
returns-clause-ends c = served_total

pub returns-clause-stays : goal.returns-clause-stays
returns-clause-stays c = served_stays
