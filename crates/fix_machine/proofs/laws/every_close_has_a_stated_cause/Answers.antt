use Rattle.fix_machine.proofs.CauseLemmas.{every_close}
use Rattle.fix_machine.proofs.laws.every_close_has_a_stated_cause.Goals as goal

pub returns : goal.returns
returns c = λ o s e. every_close o s e
