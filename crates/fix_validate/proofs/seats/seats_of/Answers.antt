use Rattle.std.proofs.Common.{◌%◌, ◌∙◌, ap, arith}
use Rattle.fix_validate.proofs.SeatLemmas.{seated_start, seated_more, seated_end, seated_few}
use Rattle.fix_validate.proofs.seats.seats_of.Goals as goal

pub loop-i-init : goal.loop-i-init
loop-i-init c = seated_start _ _ c.no_seats-seats.ensures

pub loop-i-preserved : goal.loop-i-preserved
loop-i-preserved c =
    seated_more c.args.fields.now c.loop-i.i c.index-fields-i.result _ _ c.last_byte-byte.result c.loop-i-test.true c.index-fields-i.is c.last_byte-byte.ensures.within (c.last_byte-byte.ensures.is ∙ ap (λ n. n % 256) c.tag.ensures) c.take_seat.ensures c.loop-i.invariant
