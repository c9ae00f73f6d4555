use Rattle.fix_resend.proofs.CutLemmas.{by_truth_values}
use Rattle.fix_resend.proofs.laws.a_resend_list_is_of_truth_values.Goals as goal

pub returns : goal.returns
returns c = by_truth_values
