use Rattle.fix_journal.proofs.RoomLemmas.{needs_then}
use Rattle.fix_journal.proofs.IndexLemmas.{adds_after}
use Rattle.fix_journal.proofs.ScanLemmas.{breaks_told}
use Rattle.fix_journal.proofs.WindowLemmas.{walks_on}
use Rattle.fix_journal.proofs.scanning.walk.Goals as goal

pub loop-index-preserved : goal.loop-index-preserved
loop-index-preserved g c =
    let disk = g.D.Disk.disk in
    let l = c.loop-index in
    walks_on (disk c.args.disk.now) (disk l.disk) (disk c.look_at.new.disk) c.args.end c.in-Ok-Record.size l.index c.add.new.self l.window c.look_at.new.window c.in-Ok-Record.field-0 c.in-Ok-Record.field-0-is (g.met.D.Disk.lawful _) l.invariant (adds_after l.index c.reserve.new.self c.add.new.self _ c.reserve.ensures.same c.add.ensures) c.in-Ok-Record.ensures.judges c.in-Ok-Record.ensures.within c.look_at.ensures.untouched c.in-Ok-Record.ensures.cause c.in-Ok-Record.ensures.shows c.look_at.ensures.from c.look_at.ensures.calls c.in-Ok-Record.ensures.room

pub returns-then-is_err-clause-room : goal.returns-then-is_err-clause-room
returns-then-is_err-clause-room g c = needs_then 0 0 _ _ _ c.loop-index.invariant.room.same c.in-Ok-Record.ensures.room

pub returns-in-Ok-Closed-clause-room : goal.returns-in-Ok-Closed-clause-room
returns-in-Ok-Closed-clause-room g c = needs_then 0 0 _ _ _ c.loop-index.invariant.room.same c.in-Ok-Closed.ensures.room

pub returns-in-Ok-Broken-clause-room : goal.returns-in-Ok-Broken-clause-room
returns-in-Ok-Broken-clause-room g c = needs_then 0 0 _ _ _ c.loop-index.invariant.room.same c.in-Ok-Broken.ensures.room

pub returns-in-Err-clause-room : goal.returns-in-Err-clause-room
returns-in-Err-clause-room g c = needs_then 1 0 _ _ _ c.loop-index.invariant.room.same c.in-Err.ensures.room

pub returns-in-Ok-Broken-clause-found : goal.returns-in-Ok-Broken-clause-found
returns-in-Ok-Broken-clause-found g c =
    let disk = g.D.Disk.disk in
    breaks_told (disk c.args.disk.now) (disk c.loop-index.disk) c.args.end c.loop-index.index c.in-Ok-Broken.field-0 c.in-Ok-Broken.field-0-is c.loop-index.invariant.scanning c.in-Ok-Broken.ensures.judges
