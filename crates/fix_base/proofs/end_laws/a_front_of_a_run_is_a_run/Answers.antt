use Rattle.fix_base.proofs.RunLemmas.{front_runs}
use Rattle.fix_base.proofs.end_laws.a_front_of_a_run_is_a_run.Goals as goal

pub returns : goal.returns
returns c = front_runs
