use Rattle.fix_resend.proofs.WalkLemmas.{whole_walk}
use Rattle.fix_resend.proofs.laws.a_walk_gives_the_resend_list.Goals as goal

pub returns : goal.returns
returns c = whole_walk
