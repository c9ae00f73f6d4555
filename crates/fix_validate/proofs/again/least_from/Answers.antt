use Rattle.fix_validate.proofs.IndexLemmas.{least_err}
use Rattle.fix_validate.proofs.again.least_from.Goals as goal

pub returns-in-Err : goal.returns-in-Err
returns-in-Err c = least_err _ _ _ _ c.binary_search.ensures.position c.requires.sorted c.requires.some c.in-Err.is
