use Rattle.fix_engine.proofs.RestartLemmas.{restarts, restarts_at, held_starts}
use Rattle.fix_engine.proofs.laws.a_stop_is_lawful.Goals as goal

pub returns-clause-lawful : goal.returns-clause-lawful
returns-clause-lawful c = restarts

pub returns-clause-held_again : goal.returns-clause-held_again
returns-clause-held_again c = restarts_at

pub returns-clause-held : goal.returns-clause-held
returns-clause-held c = held_starts
