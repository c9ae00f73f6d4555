use Rattle.std.proofs.Common.{refl, Err}
use Rattle.fix_journal.proofs.SyncedLemmas.{failed_write, write_and_sync}
use Rattle.fix_journal.proofs.synced.write_synced.Goals as goal

pub returns-in-Ok-clause-writes : goal.returns-in-Ok-clause-writes
returns-in-Ok-clause-writes g c =
    let disk = g.D.Disk.disk in
    write_and_sync c.in-Ok.field-0 c.sync.result c.args.at c.args.bytes.now (disk c.args.disk.now) (disk c.write_at.new.self) (disk c.sync.new.self) (g.met.D.Disk.lawful _) (g.met.D.Disk.lawful _) c.requires (c.in-Ok.ensures.moves) c.sync.ensures.moves

pub returns-in-Err-clause-writes : goal.returns-in-Err-clause-writes
returns-in-Err-clause-writes g c =
    let disk = g.D.Disk.disk in
    failed_write (Err c.in-Err.field-0) c.args.at c.args.bytes.now (disk c.args.disk.now) (disk c.write_at.new.self) (g.met.D.Disk.lawful _) c.requires c.in-Err.ensures.moves c.in-Err.field-0 refl
