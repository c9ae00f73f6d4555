use Rattle.fix_base.proofs.TimeTexts.{any_time_text_no_soh}
use Rattle.fix_fields.proofs.time_laws.a_written_time_is_a_value.Goals as goal

pub returns : goal.returns
returns c = any_time_text_no_soh
