use Rattle.fix_admin.proofs.FollowLemmas.{ok_also, business_follows}
use Rattle.fix_admin.proofs.building.business.Goals as goal

pub returns-clause-follows : goal.returns-clause-follows
returns-clause-follows c = λ kind text. ok_also _ c.refused.result _ c.refused.ensures (business_follows c.args.about c.args.kind.now c.args.reason c.args.text.now kind text)
