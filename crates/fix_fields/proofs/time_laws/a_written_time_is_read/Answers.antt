use Rattle.fix_base.proofs.TimeTexts.{written_is_read}
use Rattle.fix_fields.proofs.time_laws.a_written_time_is_read.Goals as goal

pub returns : goal.returns
returns c = written_is_read
