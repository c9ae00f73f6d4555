use Rattle.std.proofs.Common.{arith}
use Rattle.fix_base.proofs.Pieces.{text_begins, text_partial}
use Rattle.fix_fields.proofs.scanning.after_text.Goals as goal

pub returns-in-None : goal.returns-in-None
returns-in-None c = text_partial c.args.bytes.now c.args.text.now (omega (arith, c.in-None.ensures.lookup.3)) (λ k lt. c.loop-i.invariant.1 k (omega (arith, c.in-None.ensures.lookup)))

pub returns : goal.returns
returns c = text_begins c.args.bytes.now c.args.text.now (omega arith) (λ k lt. c.loop-i.invariant.1 k (omega arith))
