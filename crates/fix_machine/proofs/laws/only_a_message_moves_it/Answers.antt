use Rattle.fix_machine.proofs.OrderLemmas.{no_message}
use Rattle.fix_machine.proofs.laws.only_a_message_moves_it.Goals as goal

pub returns : goal.returns
returns c = λ o s e h. no_message o s e h
