use Rattle.fix_base.proofs.Digits.{HasDigits}
use Rattle.fix_frame.proofs.places.after_length.Given as goal

abbrev pub invariant-loop-i : goal.invariant-loop-i
invariant-loop-i l = HasDigits l.i l.bytes l.length
