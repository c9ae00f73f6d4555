use Rattle.fix_base.proofs.HeldLemmas.{passes_withheld}
use Rattle.fix_base.proofs.world_laws.a_message_is_withheld.Goals as goal

pub returns : goal.returns
returns c = passes_withheld
