use Rattle.std.proofs.Common.{arith}
use Rattle.fix_fields.proofs.TimedLemmas.{no_fraction, long_below, nine_here}
use Rattle.fix_fields.proofs.times.fraction_of.Goals as goal

pub returns-in_err-number-clause-value : goal.returns-in_err-number-clause-value
returns-in_err-number-clause-value c = rw c.from_residual-in_err-number.ensures (no_fraction c.args.bytes.now _ c.in_ok-digits.ensures c.in_err-number.ensures)

pub returns-in-3-clause-bound : goal.returns-in-3-clause-bound
returns-in-3-clause-bound c = let h = c.in_ok-number.ensures in omega (arith, h.says, long_below _ 3 h.digits c.in-3.is)

pub returns-in-6-clause-bound : goal.returns-in-6-clause-bound
returns-in-6-clause-bound c = let h = c.in_ok-number.ensures in omega (arith, h.says, long_below _ 6 h.digits c.in-6.is)

pub returns-in-9-clause-bound : goal.returns-in-9-clause-bound
returns-in-9-clause-bound c = let h = c.in_ok-number.ensures in omega (arith, h.says, long_below _ 9 h.digits c.in-9.is)

pub returns-in-9-clause-value : goal.returns-in-9-clause-value
returns-in-9-clause-value c = nine_here c.args.bytes.now _ _ c.in_ok-digits.ensures c.in_ok-number.ensures c.in-9.is
