use Rattle.fix_machine.proofs.OrderLemmas.{in_order}
use Rattle.fix_machine.proofs.laws.a_message_in_order_is_handed_over.Goals as goal

pub returns : goal.returns
returns c = λ o s i up own number reset fine app. in_order o s i up own number reset fine app
