use Rattle.fix_base.proofs.ArrivesLemmas.{arrives}
use Rattle.fix_base.proofs.world_laws.a_message_arrives.Goals as goal

pub returns : goal.returns
returns c = arrives
