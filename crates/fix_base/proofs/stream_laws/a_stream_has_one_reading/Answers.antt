use Rattle.fix_base.proofs.Runs.{reads_same}
use Rattle.fix_base.proofs.stream_laws.a_stream_has_one_reading.Goals as goal

pub returns : goal.returns
returns c = reads_same
