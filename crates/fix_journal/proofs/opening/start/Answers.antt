use Rattle.std.proofs.Common.{refl}
use Rattle.fix_journal.proofs.OpenLemmas.{opens_making}
use Rattle.fix_journal.proofs.opening.start.Goals as goal

pub returns-in-Ok-make-clause-opens : goal.returns-in-Ok-make-clause-opens
returns-in-Ok-make-clause-opens g c =
    let disk = g.D.Disk.disk in
    opens_making _ c.args.is_short (disk c.args.disk.now) (disk c.make.new.disk) (g.met.D.Disk.lawful _) (g.met.D.Disk.lawful _) c.requires c.in-Ok-make.ensures.makes _ refl tt c.in-Ok-make.ensures.makes.behind

pub returns-in-Err-clause-opens : goal.returns-in-Err-clause-opens
returns-in-Err-clause-opens g c =
    let disk = g.D.Disk.disk in
    opens_making _ c.args.is_short (disk c.args.disk.now) (disk c.make.new.disk) (g.met.D.Disk.lawful _) (g.met.D.Disk.lawful _) c.requires c.in-Err.ensures.makes _ refl tt tt
