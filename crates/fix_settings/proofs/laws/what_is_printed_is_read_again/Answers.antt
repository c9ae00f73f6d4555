use Rattle.fix_settings.proofs.LawLemmas.{reads_back}
use Rattle.fix_settings.proofs.laws.what_is_printed_is_read_again.Goals as goal

pub returns : goal.returns
returns c = reads_back
