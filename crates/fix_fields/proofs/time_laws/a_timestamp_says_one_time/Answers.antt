use Rattle.fix_fields.proofs.TimedLemmas.{stamp_same}
use Rattle.fix_fields.proofs.time_laws.a_timestamp_says_one_time.Goals as goal

pub returns : goal.returns
returns c = stamp_same
