use Rattle.fix_admin.proofs.FollowLemmas.{whole}
use Rattle.fix_admin.proofs.laws.what_may_follow_makes_a_message.Goals as goal

pub returns : goal.returns
returns c = λ longest front bytes fs are none h. whole longest front bytes fs are none h
