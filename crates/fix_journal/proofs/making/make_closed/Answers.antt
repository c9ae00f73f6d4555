use Rattle.fix_journal.proofs.MakeLemmas.{closed_failed, closed_done}
use Rattle.fix_journal.proofs.making.make_closed.Goals as goal

pub returns-in-Ok-clause-makes : goal.returns-in-Ok-clause-makes
returns-in-Ok-clause-makes g c =
    let disk = g.D.Disk.disk in
    closed_done (disk c.args.disk.now) (disk c.write_synced.new.disk) (g.met.D.Disk.lawful _) (g.met.D.Disk.lawful _) c.requires c.in-Ok.field-0 c.write_synced-in-Ok.result (disk c.write_synced-in-Ok.new.disk) (g.met.D.Disk.lawful _) c.in-Ok.ensures.writes c.write_synced-in-Ok.ensures.writes

pub returns-in-Err-clause-makes : goal.returns-in-Err-clause-makes
returns-in-Err-clause-makes g c =
    let disk = g.D.Disk.disk in
    closed_failed (disk c.args.disk.now) (disk c.write_synced.new.disk) (g.met.D.Disk.lawful _) (g.met.D.Disk.lawful _) c.requires c.in-Err.field-0 c.in-Err.ensures.writes
