use Rattle.fix_stage.proofs.RoleLemmas.{keeps_role}
use Rattle.fix_stage.proofs.laws.an_end_keeps_its_role.Goals as goal

pub returns : goal.returns
returns c = keeps_role
