use Rattle.std.proofs.Common.{rules}
use Rattle.fix_host.proofs.PostLemmas.{loads_one, loads_full}
use Rattle.fix_host.proofs.posting.post_or_closed.Goals as goal

pub returns-in-Ok-clause-found : goal.returns-in-Ok-clause-found
returns-in-Ok-clause-found g c = let (n, is, zero) = c.in-Ok.ensures.cause in loads_one _ _ _ n c.loop.invariant.found is zero

pub loop-preserved : goal.loop-preserved
loop-preserved g c = let (n, is, cause) = c.in-Err-Full.ensures.cause in record {
  can_next = search rules;
  finite = search rules;
  pass = search rules;
  number = search rules;
  posted = search rules;
  found = loads_full _ _ _ n _ _ _ _ c.in-Err-Full.field-0-is c.loop.invariant.found is cause;
  next = search rules;
}
