use Rattle.fix_base.proofs.WorldLemmas.{come_in_order}
use Rattle.fix_base.proofs.world_laws.no_withheld_message_comes_late.Goals as goal

pub returns : goal.returns
returns c = come_in_order
