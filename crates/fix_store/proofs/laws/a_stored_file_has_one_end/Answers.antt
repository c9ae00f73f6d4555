use Rattle.fix_store.proofs.Ends.{one_store, one_end, end_is, not_broken, one_break}
use Rattle.fix_store.proofs.laws.a_stored_file_has_one_end.Goals as goal

pub returns-clause-records : goal.returns-clause-records
returns-clause-records c = one_store

pub returns-clause-ends : goal.returns-clause-ends
returns-clause-ends c = one_end

pub returns-clause-damage : goal.returns-clause-damage
returns-clause-damage c = not_broken

pub returns-clause-first : goal.returns-clause-first
returns-clause-first c = one_break

pub returns-clause-computed : goal.returns-clause-computed
returns-clause-computed c = end_is
