use Rattle.fix_machine.proofs.OrderLemmas.{too_high}
use Rattle.fix_machine.proofs.laws.a_message_too_high_is_neither_rejected_nor_counted.Goals as goal

pub returns : goal.returns
returns c = λ o s i n up own number reset above. too_high o s i n up own number reset above
