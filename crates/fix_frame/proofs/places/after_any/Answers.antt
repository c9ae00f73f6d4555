use Rattle.fix_base.proofs.Pieces.{long_begins, long_partial}
use Rattle.fix_frame.proofs.places.after_any.Goals as goal

pub returns-then-bytes-count : goal.returns-then-bytes-count
returns-then-bytes-count c = long_partial c.args.bytes.now c.args.count c.if-bytes-count.true

pub returns : goal.returns
returns c = long_begins c.args.bytes.now c.args.count c.if-bytes-count.false
