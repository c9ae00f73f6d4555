use Rattle.fix_base.proofs.UnsureLemmas.{resets_shared}
use Rattle.fix_base.proofs.world_laws.resets_are_shared.Goals as goal

pub returns : goal.returns
returns c = resets_shared
