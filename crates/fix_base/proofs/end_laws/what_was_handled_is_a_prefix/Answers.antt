use Rattle.fix_base.proofs.AgreesLemmas.{Agrees-prefix}
use Rattle.fix_base.proofs.end_laws.what_was_handled_is_a_prefix.Goals as goal

pub returns : goal.returns
returns c = Agrees-prefix
