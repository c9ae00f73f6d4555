use Rattle.fix_journal.proofs.AppendLemmas.{append_failed, append_both}
use Rattle.fix_journal.proofs.appending.append_at.Goals as goal

pub returns-in-Ok-clause-appends : goal.returns-in-Ok-clause-appends
returns-in-Ok-clause-appends g c =
    let disk = g.D.Disk.disk in
    append_both c.args.gate c.args.staged.now (disk c.args.disk.now) (disk c.write_synced.new.disk) (g.met.D.Disk.lawful _) c.in-Ok.field-0 (disk c.write_synced-in-Ok.new.disk) (g.met.D.Disk.lawful _) c.in-Ok.ensures.writes c.write_synced-in-Ok.result c.write_synced-in-Ok.ensures.writes

pub returns-in-Err-clause-appends : goal.returns-in-Err-clause-appends
returns-in-Err-clause-appends g c =
    let disk = g.D.Disk.disk in
    append_failed c.args.gate c.args.staged.now (disk c.args.disk.now) (disk c.write_synced.new.disk) (g.met.D.Disk.lawful _) c.in-Err.field-0 c.in-Err.ensures.writes
