use Rattle.fix_engine.proofs.OneRun.{one_run, no_turns}
use Rattle.fix_engine.proofs.laws.runs_are_one_run.Goals as goal

pub returns-clause-of_two : goal.returns-clause-of_two
returns-clause-of_two c = one_run

pub returns-clause-of_none : goal.returns-clause-of_none
returns-clause-of_none c = no_turns
