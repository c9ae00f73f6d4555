use Rattle.fix_machine.proofs.RisesLemmas.{never_falls}
use Rattle.fix_machine.proofs.laws.the_expected_number_never_falls.Goals as goal

pub returns : goal.returns
returns c = λ o s e. never_falls o s e
