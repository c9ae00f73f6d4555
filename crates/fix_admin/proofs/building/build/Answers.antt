use Rattle.fix_admin.proofs.FollowLemmas.{ok_also, said_follows}
use Rattle.fix_admin.specs.Say.{say_seen}
use Rattle.fix_admin.proofs.building.build.Goals as goal

pub returns-clause-follows : goal.returns-clause-follows
returns-clause-follows c = λ values. ok_also _ c.said.result _ c.said.ensures (said_follows c.args.begin (say_seen c.args.say.now) values)
