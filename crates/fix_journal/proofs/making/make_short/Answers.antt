use Rattle.fix_journal.proofs.MakeLemmas.{short_failed, shut_first, short_done}
use Rattle.fix_journal.proofs.making.make_short.Goals as goal

pub make_closed-requires : goal.make_closed-requires
make_closed-requires g c =
    let disk = g.D.Disk.disk in
    shut_first (disk c.args.disk.now) (disk c.write_synced.new.disk) (g.met.D.Disk.lawful _) (g.met.D.Disk.lawful _) c.requires c.in-Ok.field-0 c.in-Ok.ensures.writes

pub returns-in-Ok-clause-makes : goal.returns-in-Ok-clause-makes
returns-in-Ok-clause-makes g c =
    let disk = g.D.Disk.disk in
    short_done (disk c.args.disk.now) (disk c.write_synced.new.disk) (g.met.D.Disk.lawful _) (g.met.D.Disk.lawful _) c.requires c.in-Ok.field-0 c.make_closed.result (disk c.make_closed.new.disk) c.in-Ok.ensures.writes c.make_closed.ensures.makes

pub returns-in-Err-clause-makes : goal.returns-in-Err-clause-makes
returns-in-Err-clause-makes g c =
    let disk = g.D.Disk.disk in
    short_failed (disk c.args.disk.now) (disk c.write_synced.new.disk) (g.met.D.Disk.lawful _) (g.met.D.Disk.lawful _) c.requires c.in-Err.field-0 c.in-Err.ensures.writes
