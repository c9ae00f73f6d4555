use Rattle.fix_base.proofs.RunLemmas.{folded_all-append}
use Rattle.fix_base.proofs.end_laws.records_fold_in_order.Goals as goal

pub returns : goal.returns
returns c = folded_all-append
