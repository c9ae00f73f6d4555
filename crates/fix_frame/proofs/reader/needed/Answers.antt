use Rattle.fix_frame.proofs.Waiting.{waits_part}
use Rattle.fix_frame.proofs.reader.needed.Goals as goal

pub returns-then-may_mark : goal.returns-then-may_mark
returns-then-may_mark c = rw c.if-may_mark.true (waits_part c.args.bytes.now c.least_of.result c.least_of.ensures.waits)
