use Rattle.fix_machine.proofs.OrderLemmas.{other_number}
use Rattle.fix_machine.proofs.laws.only_the_expected_number_moves_it.Goals as goal

pub returns : goal.returns
returns c = λ o s i n up own number reset other. other_number o s i n up own number reset other
