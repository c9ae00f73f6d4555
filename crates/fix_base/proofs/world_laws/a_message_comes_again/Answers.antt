use Rattle.fix_base.proofs.AgainLemmas.{comes_again}
use Rattle.fix_base.proofs.world_laws.a_message_comes_again.Goals as goal

pub returns : goal.returns
returns c = comes_again
