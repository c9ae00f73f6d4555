use Rattle.fix_base.proofs.WholeLemmas.{whole_start, whole_grown, whole_more, whole_wrote, front_wrote}
use Rattle.fix_base.proofs.world_laws.what_a_writer_keeps_true.Goals as goal

pub returns : goal.returns
returns c = record { start = whole_start; grown = whole_grown; more = whole_more; wrote = whole_wrote; cut = front_wrote }
