use Rattle.fix_steps.proofs.DecideLemmas.{message_leads, first_leads, other_leads}
use Rattle.fix_steps.proofs.laws.what_is_decided_is_lawful.Goals as goal

pub returns-clause-message : goal.returns-clause-message
returns-clause-message c = message_leads

pub returns-clause-first : goal.returns-clause-first
returns-clause-first c = first_leads

pub returns-clause-other : goal.returns-clause-other
returns-clause-other c = other_leads
