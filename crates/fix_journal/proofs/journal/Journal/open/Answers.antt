use Rattle.std.proofs.Common.{refl}
use Rattle.fix_journal.proofs.OpenLemmas.{opened}
use Rattle.fix_journal.proofs.journal.Journal.open.Goals as goal

pub returns-in-Ok-clause-opened : goal.returns-in-Ok-clause-opened
returns-in-Ok-clause-opened g c =
    let disk = g.D.Disk.disk in
    record { goes_on = refl; records = opened c.in-Ok.index (disk c.args.disk) (disk c.find.new.disk) c.in-Ok.ensures.finds }
