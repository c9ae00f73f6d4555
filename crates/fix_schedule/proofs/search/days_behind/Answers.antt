use Rattle.fix_schedule.proofs.DayLemmas.{different_days, same_days}
use Rattle.fix_schedule.proofs.search.days_behind.Goals as goal

pub returns-in-Some-clause-ends : goal.returns-in-Some-clause-ends
returns-in-Some-clause-ends c = different_days c.args.hours.now c.in-Some.week c.from.result c.in-Some.is c.if-week.true c.from.ensures

pub returns-in-Some-2-clause-ends : goal.returns-in-Some-2-clause-ends
returns-in-Some-2-clause-ends c = same_days c.args.hours.now c.in-Some.week c.days_round.result c.in-Some.is c.if-week.false c.days_round.ensures.none c.days_round.ensures.all
