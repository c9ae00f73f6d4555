use Rattle.std.proofs.Common.{arith, ap, Some}
use Rattle.std.proofs.lemmas.Int.{ints}
use Rattle.fix_fields.proofs.TimedLemmas.{no_stamp_day, no_stamp_clock, no_stamp_fraction, stamp_here, stamp_same}
use Rattle.fix_fields.proofs.times.utc_time.Goals as goal

pub returns-in_err-day-clause-each : goal.returns-in_err-day-clause-each
returns-in_err-day-clause-each c = λ time h. absurd (no_stamp_day c.args.value.now c.in_err-day.ensures.value time h)

pub returns-in_err-second-clause-each : goal.returns-in_err-second-clause-each
returns-in_err-second-clause-each c = λ time h. absurd (no_stamp_clock c.args.value.now _ _ _ c.in_ok-day.ensures.value c.in_ok-rest.ensures c.in_err-second.ensures.value time h)

pub returns-in_err-micros-clause-each : goal.returns-in_err-micros-clause-each
returns-in_err-micros-clause-each c = λ time h. absurd (no_stamp_fraction c.args.value.now _ _ _ _ _ c.in_ok-day.ensures.value c.in_ok-rest.ensures c.in_ok-second.ensures.value c.in_err-micros.ensures.value time h)

pub overflow_mul-result-2 : goal.overflow_mul-result-2
overflow_mul-result-2 c = omega (arith, ints, c.in_ok-day.ensures.bound, c.in_ok-second.ensures.bound)

pub overflow_add-result-2 : goal.overflow_add-result-2
overflow_add-result-2 c = omega (arith, ints, c.in_ok-day.ensures.bound, c.in_ok-second.ensures.bound, c.in_ok-micros.ensures.bound)

pub returns-clause-known : goal.returns-clause-known
returns-clause-known c = stamp_here c.args.value.now _ _ _ _ _ _ _ c.in_ok-day.ensures.value c.in_ok-rest.ensures c.in_ok-second.ensures.value c.in_ok-micros.ensures.value
    (omega (arith, ints, c.in_ok-day.ensures.bound, c.in_ok-second.ensures.bound, c.in_ok-micros.ensures.bound))

pub returns-clause-each : goal.returns-clause-each
returns-clause-each c = λ time h. ap Some (stamp_same c.args.value.now _ time (returns-clause-known c) h)
