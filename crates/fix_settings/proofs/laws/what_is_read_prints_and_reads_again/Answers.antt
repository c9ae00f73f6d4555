use Rattle.fix_settings.proofs.GivenLemmas.{given_reads_back}
use Rattle.fix_settings.proofs.laws.what_is_read_prints_and_reads_again.Goals as goal

pub returns : goal.returns
returns c = given_reads_back
