use Rattle.fix_engine.proofs.InStepLemmas.{sessions_agree, sessions_agree_back}
use Rattle.fix_engine.proofs.laws.two_sessions_agree.Goals as goal

pub returns-clause-one : goal.returns-clause-one
returns-clause-one c = sessions_agree

pub returns-clause-other : goal.returns-clause-other
returns-clause-other c = sessions_agree_back
