use Rattle.fix_schedule.proofs.WindowLemmas.{answered}
use Rattle.fix_schedule.proofs.schedule.Schedule.window.Goals as goal

pub returns-in-Some-clause-each : goal.returns-in-Some-clause-each
returns-in-Some-clause-each c = rw (← c.self.view_is, c.in-Some.is) (answered c.in-Some.hours c.args.micros c.window_of.result c.window_of.ensures.known c.window_of.ensures.none)

pub returns-in-Some-clause-none : goal.returns-in-Some-clause-none
returns-in-Some-clause-none c = rw (← c.self.view_is, c.in-Some.is) c.window_of.ensures.none
