use Rattle.fix_admin.proofs.PushLemmas.{capped}
use Rattle.fix_admin.proofs.building.push_given_id.Goals as goal

pub returns : goal.returns
returns c = rw (capped 1048000 c.min.result c.args.id.now c.min.ensures) at c.push_field.ensures
