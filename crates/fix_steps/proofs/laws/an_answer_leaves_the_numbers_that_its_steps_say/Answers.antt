use Rattle.fix_steps.proofs.NumberLemmas.{carried_numbers, carried_closes, carried_reading}
use Rattle.fix_steps.proofs.laws.an_answer_leaves_the_numbers_that_its_steps_say.Goals as goal

pub returns-clause-done : goal.returns-clause-done
returns-clause-done c = λ id frame steps order b calls to d. carried_numbers id frame steps order b calls to d

pub returns-clause-closed : goal.returns-clause-closed
returns-clause-closed c = λ id frame steps order why b calls to d. carried_closes id frame steps order why b calls to d

pub returns-clause-reading : goal.returns-clause-reading
returns-clause-reading c = carried_reading
