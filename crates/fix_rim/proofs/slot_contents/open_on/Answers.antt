use Rattle.std.proofs.Common.{Some, None}
use Rattle.fix_base.specs.declared.entry.Stored.{Stored}
use Rattle.fix_rim.proofs.SlotLemmas.{opened_moves, opened_gives, opened_lasts, refused_moves, load_leaves}
use Rattle.fix_rim.proofs.slot_contents.open_on.Goals as goal

pub returns-in-Ok-clause-gives : goal.returns-in-Ok-clause-gives
returns-in-Ok-clause-gives g c =
    let disk = g.D.Disk.disk in
    opened_gives disk (disk c.args.disk) c.in-Ok.store c.in-Ok.ensures.opened c.in-Ok.ensures.moves.tells_bytes c.stored-stored.result c.stored-stored.ensures.is c.stored-stored.ensures.range

pub returns-in-Ok-clause-moves : goal.returns-in-Ok-clause-moves
returns-in-Ok-clause-moves g c =
    let disk = g.D.Disk.disk in
    opened_moves disk (disk c.args.disk) c.in-Ok.store c.in-Ok.ensures.opened c.in-Ok.ensures.moves.tells_bytes c.in-Ok.ensures.moves.cause

pub returns-in-Err-clause-moves : goal.returns-in-Err-clause-moves
returns-in-Err-clause-moves g c =
    let disk = g.D.Disk.disk in
    refused_moves Stored (disk c.args.disk) (disk c.in-Err.refused.disk) c.in-Err.refused.fault c.load_fault.result c.load_fault.ensures c.in-Err.ensures.moves_refused

pub returns-in-Ok-clause-leaves : goal.returns-in-Ok-clause-leaves
returns-in-Ok-clause-leaves g c =
    let disk = g.D.Disk.disk in
    load_leaves (disk c.args.disk) (disk c.in-Ok.store.disk) None (g.met.D.Disk.lawful _) c.in-Ok.ensures.moves

pub returns-in-Ok-clause-lasts : goal.returns-in-Ok-clause-lasts
returns-in-Ok-clause-lasts g c =
    let disk = g.D.Disk.disk in
    opened_lasts disk (disk c.args.disk) c.in-Ok.store c.in-Ok.ensures.opened c.in-Ok.ensures.moves.tells_bytes

pub returns-in-Err-clause-leaves : goal.returns-in-Err-clause-leaves
returns-in-Err-clause-leaves g c =
    let disk = g.D.Disk.disk in
    load_leaves (disk c.args.disk) (disk c.in-Err.refused.disk) (Some c.in-Err.refused.fault) (g.met.D.Disk.lawful _) c.in-Err.ensures.moves_refused
