use Rattle.fix_resend.proofs.CutLemmas.{in_plain_words}
use Rattle.fix_resend.proofs.laws.a_resend_list_in_plain_words.Goals as goal

pub returns : goal.returns
returns c = in_plain_words
