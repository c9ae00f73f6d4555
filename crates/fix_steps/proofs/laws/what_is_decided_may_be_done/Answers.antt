use Rattle.fix_steps.proofs.DecideLemmas.{message_done, first_done, other_done}
use Rattle.fix_steps.proofs.laws.what_is_decided_may_be_done.Goals as goal

pub returns-clause-message : goal.returns-clause-message
returns-clause-message c = message_done

pub returns-clause-first : goal.returns-clause-first
returns-clause-first c = first_done

pub returns-clause-other : goal.returns-clause-other
returns-clause-other c = other_done
