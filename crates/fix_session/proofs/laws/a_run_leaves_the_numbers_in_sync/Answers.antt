use Rattle.fix_machine.proofs.NumberLemmas.{every_adds}
use Rattle.fix_session.proofs.SyncLemmas.{run_sync}
use Rattle.fix_session.proofs.laws.a_run_leaves_the_numbers_in_sync.Goals as goal

pub returns : goal.returns
returns c = run_sync every_adds
