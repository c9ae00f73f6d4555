use Rattle.std.proofs.Common.{arith}
use Rattle.fix_validate.proofs.SeatLemmas.{first_seat}
use Rattle.fix_validate.proofs.again.stands_among_few.Goals as goal

pub returns-then-from-place : goal.returns-then-from-place
returns-then-from-place c =
    first_seat c.args.fields.now c.args.seats.now c.args.tag c.last_byte.result c.args.place (c.requires.seats c.requires.few) c.last_byte.ensures.is (omega (arith, c.from.ensures, c.if-from-place.true))
