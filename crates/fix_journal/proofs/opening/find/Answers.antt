use Rattle.fix_journal.specs.Opening.{fault_of}
use Rattle.fix_journal.proofs.OpenLemmas.{opens_later}
use Rattle.fix_journal.proofs.opening.find.Goals as goal

pub returns-in-Ok-Unmade-clause-opens : goal.returns-in-Ok-Unmade-clause-opens
returns-in-Ok-Unmade-clause-opens g c =
    let disk = g.D.Disk.disk in
    opens_later (fault_of c.start.result) (disk c.args.disk.now) (disk c.survey.new.disk) (disk c.start.new.disk) (g.met.D.Disk.lawful _) c.survey.ensures.untouched c.in-Ok-Unmade.ensures.cause c.start.ensures.opens
