-- What a call of an outside over parts comes to, from what is noted of it.
use Rattle.fix_outside.proofs.CallLemmas.{called}

pub ruleset calls = (called)
