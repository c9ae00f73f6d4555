use Rattle.std.proofs.Common.{sym, subst}
use Rattle.std.specs.List.{AllByRecursion}
use Rattle.fix_settings.specs.Lawful.{AreValid}
use Rattle.fix_schedule.proofs.ReadLemmas.{first_is}
use Rattle.fix_schedule.proofs.tests.read.Goals as goal

pub read-requires-2 : goal.read-requires-2
read-requires-2 g c =
    let all = subst (AllByRecursion AreValid) (sym c.sessions.ensures) c.in-Ok.ensures.ok.lawful in
    first_is c.sessions.result.now c.session-item.result all c.in-len1.len_at_least c.session-item.is
