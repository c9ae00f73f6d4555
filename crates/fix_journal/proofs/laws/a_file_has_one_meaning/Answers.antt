use Rattle.fix_journal.proofs.Meaning.{one_list_of_records, not_both, one_first_place}
use Rattle.fix_journal.proofs.PayloadLemmas.{computed}
use Rattle.fix_journal.proofs.laws.a_file_has_one_meaning.Goals as goal

pub returns-clause-records : goal.returns-clause-records
returns-clause-records c = one_list_of_records

pub returns-clause-damage : goal.returns-clause-damage
returns-clause-damage c = not_both

pub returns-clause-first : goal.returns-clause-first
returns-clause-first c = one_first_place

pub returns-clause-computed : goal.returns-clause-computed
returns-clause-computed c = computed
