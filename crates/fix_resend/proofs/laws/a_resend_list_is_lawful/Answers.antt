use Rattle.fix_resend.proofs.AllowedLemmas.{list_allowed}
use Rattle.fix_resend.proofs.laws.a_resend_list_is_lawful.Goals as goal

pub returns : goal.returns
returns c = list_allowed
