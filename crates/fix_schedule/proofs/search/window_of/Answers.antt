use Rattle.std.proofs.Common.{◌≤◌, ◌+◌, ◌/◌, pos, ◌∙◌, sym, arith}
use Rattle.fix_schedule.proofs.WindowLemmas.{first_day, day_before, none_later, none_at_all, found, not_found, one_day_more}
use Rattle.fix_schedule.proofs.search.window_of.Goals as goal

pub loop-back-init : goal.loop-back-init
loop-back-init c = rw (first_day c.args.time c.requires) (none_later c.args.hours.now c.args.time)

pub returns-then-is_some-clause-known : goal.returns-then-is_some-clause-known
returns-then-is_some-clause-known c =
    let few : c.loop-back.back ≤ 12 = omega (arith, c.loop-back-test.true, c.loop-back.auto, c.days_behind-days.ensures.bound) in
    let on = rw (day_before c.args.time c.loop-back.back c.from.result c.requires c.from.ensures few) at c.window_on-window.ensures in
    let none = rw (first_day c.args.time c.requires) at c.loop-back.invariant in
    found c.args.hours.now c.args.time _ c.window_on-window.result on none

pub loop-back-preserved : goal.loop-back-preserved
loop-back-preserved c =
    let few : c.loop-back.back ≤ 12 = omega (arith, c.loop-back-test.true, c.loop-back.auto, c.days_behind-days.ensures.bound) in
    let on = rw (day_before c.args.time c.loop-back.back c.from.result c.requires c.from.ensures few) at c.window_on-window.ensures in
    let none = rw (first_day c.args.time c.requires) at c.loop-back.invariant in
    rw (first_day c.args.time c.requires) (one_day_more c.args.hours.now c.args.time c.loop-back.back (pos (c.args.time / 86_400_000_000 + 2)) none (not_found c.args.hours.now c.args.time _ c.window_on-window.result on (sym c.is_some.ensures ∙ c.if-is_some.false)))

pub returns-clause-none : goal.returns-clause-none
returns-clause-none c _ =
    let none = rw (first_day c.args.time c.requires) at c.loop-back.invariant in
    none_at_all c.args.hours.now c.args.time c.loop-back.back c.days_behind-days.result c.days_behind-days.ensures.ends c.loop-back-test.false none
