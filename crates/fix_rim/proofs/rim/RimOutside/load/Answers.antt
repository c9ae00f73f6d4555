use Rattle.std.proofs.Common.{rules}
use Rattle.fix_outside.proofs.CallLemmas.{called}
use Rattle.fix_rim.proofs.rim.RimOutside.load.Goals as goal

pub returns-in-Ok-load-clause-noted : goal.returns-in-Ok-load-clause-noted
returns-in-Ok-load-clause-noted g c = search rules

pub returns-in-Ok-load-clause-called : goal.returns-in-Ok-load-clause-called
returns-in-Ok-load-clause-called g c = called _ _ _ (returns-in-Ok-load-clause-noted g c) (λ e h. tt) tt

pub returns-in-Err-load-clause-noted : goal.returns-in-Err-load-clause-noted
returns-in-Err-load-clause-noted g c = search rules

pub returns-in-Err-load-clause-called : goal.returns-in-Err-load-clause-called
returns-in-Err-load-clause-called g c = called _ _ _ (returns-in-Err-load-clause-noted g c) (λ e h. tt) tt
