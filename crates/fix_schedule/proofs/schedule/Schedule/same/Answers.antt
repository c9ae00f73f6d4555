use Rattle.fix_schedule.proofs.WindowLemmas.{in_one}
use Rattle.fix_schedule.proofs.schedule.Schedule.same.Goals as goal

pub returns-in-Some-Some : goal.returns-in-Some-Some
returns-in-Some-Some c = in_one c.args.self.now c.args.a c.args.b c.in-Some-Some.first c.in-Some-Some.second c.in-Some-Some.ensures.known c.in-Some-Some.ensures'.known c.in-Some-Some.ensures.each c.in-Some-Some.ensures'.each
