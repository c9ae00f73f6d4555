use Rattle.fix_machine.proofs.MoveLemmas.{may_move}
use Rattle.fix_machine.proofs.laws.these_alone_move_the_expected_number.Goals as goal

pub returns : goal.returns
returns c = λ o s e. may_move o s e
