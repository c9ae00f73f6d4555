use Rattle.fix_base.proofs.AfterResetLemmas.{shares_reset}
use Rattle.fix_base.proofs.world_laws.a_reset_is_shared.Goals as goal

pub returns : goal.returns
returns c = shares_reset
