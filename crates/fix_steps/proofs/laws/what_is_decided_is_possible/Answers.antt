use Rattle.fix_steps.proofs.PossibleLemmas.{message_fine, other_fine}
use Rattle.fix_steps.proofs.laws.what_is_decided_is_possible.Goals as goal

pub returns-clause-message : goal.returns-clause-message
returns-clause-message c = message_fine

pub returns-clause-other : goal.returns-clause-other
returns-clause-other c = other_fine
