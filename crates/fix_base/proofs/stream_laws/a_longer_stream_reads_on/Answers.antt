use Rattle.fix_base.proofs.Runs.{with_more, all_more, front_stays}
use Rattle.fix_base.proofs.stream_laws.a_longer_stream_reads_on.Goals as goal

pub returns : goal.returns
returns c = λ may_mark bytes more xs ys b d takes reads.
    let stays = front_stays _ xs ys (with_more b more) d (all_more (record { may_mark = may_mark; bytes = bytes }) xs b more takes) reads in
    record { rest = stays.0; is = stays.1 }
