use Rattle.fix_engine.proofs.InStepLemmas.{new_in_step}
use Rattle.fix_engine.proofs.laws.a_new_session_is_in_step.Goals as goal

pub returns : goal.returns
returns g c = λ id before. new_in_step id _ before
