use Rattle.std.proofs.Common.{arith}
use Rattle.fix_stage.proofs.serving_tests.is_sent_body.Goals as goal

pub returns : goal.returns
returns c = λ is.
    (let h = c.is_entry_body.ensures.0 is in
    let short = c.if-body-gt100.false in
    record { time_fits = omega arith; short = omega (arith, short); type = h.type; rest = h.rest; named = h.named; is = h.is })
