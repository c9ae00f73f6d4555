use Rattle.fix_base.proofs.WorldLemmas.{agrees}
use Rattle.fix_base.proofs.world_laws.world_agrees.Goals as goal

pub returns : goal.returns
returns c = agrees
