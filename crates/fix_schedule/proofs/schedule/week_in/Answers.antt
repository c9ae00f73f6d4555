use Rattle.fix_schedule.proofs.ReadLemmas.{start_of_week, end_of_week, end_day_beside, no_end_day}
use Rattle.fix_schedule.proofs.schedule.week_in.Goals as goal

pub returns-in_default-clause-start : goal.returns-in_default-clause-start
returns-in_default-clause-start c = absurd (end_day_beside c.args.settings.now _ c.requires c.in_default.is-0 c.in_default.is-1)

pub returns-in_default-2-clause-end : goal.returns-in_default-2-clause-end
returns-in_default-2-clause-end c = no_end_day c.args.settings.now c.requires c.in_default.is-0

pub invariant_of-result : goal.invariant_of-result
invariant_of-result c =
    let start = start_of_week c.args.settings.now c.in-Some-Some.start_day c.requires c.in-Some-Some.is-0 in
    let end = end_of_week c.args.settings.now c.in-Some-Some.end_day c.requires c.in-Some-Some.is-1 in
    record { start_from = start.0; start_to = start.1; end_from = end.0; end_to = end.1 }
