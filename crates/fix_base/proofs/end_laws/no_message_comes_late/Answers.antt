use Rattle.fix_base.proofs.StatedLemmas.{in_order}
use Rattle.fix_base.proofs.end_laws.no_message_comes_late.Goals as goal

pub returns : goal.returns
returns c = in_order
