use Rattle.fix_base.proofs.Digits.{HasSum}
use Rattle.fix_frame.proofs.places.after_sum.Given as goal

abbrev pub invariant-loop-i : goal.invariant-loop-i
invariant-loop-i l = HasSum l.i l.bytes l.sum
