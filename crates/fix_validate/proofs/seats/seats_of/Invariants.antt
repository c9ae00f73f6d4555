use Rattle.fix_validate.proofs.SeatLemmas.{Seated}
use Rattle.fix_validate.proofs.seats.seats_of.Given as goal

abbrev pub invariant-loop-i : goal.invariant-loop-i
invariant-loop-i l = Seated l.fields l.i l.seats
