use Rattle.fix_base.proofs.ReaderLemmas.{reader}
use Rattle.fix_base.proofs.world_laws.a_reader_keeps_up.Goals as goal

pub returns : goal.returns
returns c = reader
