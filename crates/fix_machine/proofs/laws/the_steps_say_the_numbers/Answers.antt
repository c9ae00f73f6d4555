use Rattle.fix_machine.proofs.NumberLemmas.{every_adds}
use Rattle.fix_machine.proofs.laws.the_steps_say_the_numbers.Goals as goal

pub returns : goal.returns
returns c = λ o s e. every_adds o s e
