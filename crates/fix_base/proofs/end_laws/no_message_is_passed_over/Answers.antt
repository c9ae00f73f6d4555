use Rattle.fix_base.proofs.AgreesLemmas.{Agrees-below}
use Rattle.fix_base.proofs.end_laws.no_message_is_passed_over.Goals as goal

pub returns : goal.returns
returns c = Agrees-below
