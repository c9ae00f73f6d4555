use Rattle.fix_base.proofs.ReaderLemmas.{reset_reader}
use Rattle.fix_base.proofs.world_laws.a_reader_keeps_up_after_a_reset.Goals as goal

pub returns : goal.returns
returns c = reset_reader
