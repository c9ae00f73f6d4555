use Rattle.std.proofs.Common.{pos, ◌+ℤ◌, ◌≡◌, arith, to_z, of_z, to_z-of_z, w64}
use Rattle.jiff_core.proofs.SignedLemmas.{signed_arith}
use Rattle.fix_schedule.proofs.WindowLemmas.{as_signed, end_day, starts_after, ends_before}
use Rattle.fix_schedule.proofs.search.window_on.Goals as goal

pub returns-then-start-time : goal.returns-then-start-time
returns-then-start-time c =
    let starts = rw (to_z-of_z c.ranges.day) at c.instant_of-start.ensures in
    let start : to_z w64 (of_z w64 c.instant_of-start.result) ≡ c.instant_of-start.result = to_z-of_z {w = w64} (record { sfits = c.instant_of-start.type_inv }) in
    let late = rw (start, as_signed c.args.time c.requires.time_in) at c.if-start-time.true in
    starts_after c.args.hours.now c.args.time c.args.day c.instant_of-start.result starts (omega (arith, signed_arith, late))

pub returns-then-end-time : goal.returns-then-end-time
returns-then-end-time c =
    let ends = rw (end_day c.args.day c.from.result c.days_behind.result c.requires.day_in c.from.ensures c.days_behind.ensures.bound) at c.instant_of-end.ensures in
    let end : to_z w64 (of_z w64 c.instant_of-end.result) ≡ c.instant_of-end.result = to_z-of_z {w = w64} (record { sfits = c.instant_of-end.type_inv }) in
    let early = rw (end, as_signed c.args.time c.requires.time_in) at c.if-end-time.true in
    let counts = rw (to_z-of_z c.ranges.day) at (c.counts.ensures.0 c.if-not-counts.false) in
    ends_before c.args.hours.now c.args.time c.args.day (c.args.day +ℤ pos c.days_behind.result) c.instant_of-end.result (c.days_behind.ensures.ends c.args.day counts) ends (omega (arith, signed_arith, early))

pub returns : goal.returns
returns c =
    let counts = rw (to_z-of_z c.ranges.day) at (c.counts.ensures.0 c.if-not-counts.false) in
    let time = as_signed c.args.time c.requires.time_in in
    let start : to_z w64 (of_z w64 c.instant_of-start.result) ≡ c.instant_of-start.result = to_z-of_z {w = w64} (record { sfits = c.instant_of-start.type_inv }) in
    let end : to_z w64 (of_z w64 c.instant_of-end.result) ≡ c.instant_of-end.result = to_z-of_z {w = w64} (record { sfits = c.instant_of-end.type_inv }) in
    let early = rw (start, time) at c.if-start-time.false in
    let late = rw (end, time) at c.if-end-time.false in
    let first = rw start at c.since_1970.ensures in
    let second = rw end at c.since_1970-2.ensures in
    record {
      last = c.args.day +ℤ pos c.days_behind.result;
      start = c.instant_of-start.result;
      end = c.instant_of-end.result;
      counts = counts;
      ends_on = c.days_behind.ensures.ends c.args.day counts;
      starts = rw (to_z-of_z c.ranges.day) at c.instant_of-start.ensures;
      ends = rw (end_day c.args.day c.from.result c.days_behind.result c.requires.day_in c.from.ensures c.days_behind.ensures.bound) at c.instant_of-end.ensures;
      from = omega (arith, signed_arith, early);
      to = omega (arith, signed_arith, late);
      pair = λ i. (first i, second i);
    }
