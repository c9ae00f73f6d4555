use Rattle.fix_resend.proofs.WaitingLemmas.{held_new}
use Rattle.fix_resend.proofs.stash.Stash.new.Goals as goal

pub invariant_of-result : goal.invariant_of-result
invariant_of-result c = rw c.new.ensures.empty held_new
