use Rattle.fix_base.proofs.StatedLemmas.{stated}
use Rattle.fix_base.proofs.end_laws.agreement_in_plain_words.Goals as goal

pub returns : goal.returns
returns c = stated
