use Rattle.std.proofs.Common.{false, refl}
use Rattle.fix_store.specs.Folding.{fold_of}
use Rattle.fix_store.proofs.OpenLemmas.{journal_unopened, journal_cause, walk_refused, walk_cause, mark_refused, mark_cause, mark_sound, mark_whole, end_found, items_found}
use Rattle.fix_store.proofs.RoomLemmas.{journal_refused, walk_lacks, mark_room, mark_room_refused}
use Rattle.fix_store.proofs.store.Store.open.Goals as goal

pub invariant_of-result : goal.invariant_of-result
invariant_of-result g c =
    let disk = g.D.Disk.disk in
    mark_sound disk (disk c.args.disk) c.in-Ok.journal c.fold.new.journal c.add_mark.new.journal (λ d. g.met.D.Disk.lawful d) c.in-Ok.ensures.opened c.in-Ok.ensures.moves c.in-Ok-fold.folded (fold_of c.add_mark.new.folded) c.in-Ok-fold.ensures.reads c.in-Ok-fold.ensures.journal c.in-Ok-fold.ensures.folds c.in-Ok-add_mark.ensures c.in-Ok-fold.ensures.within false refl

pub returns-in-Ok-add_mark-clause-opened : goal.returns-in-Ok-add_mark-clause-opened
returns-in-Ok-add_mark-clause-opened g c =
    let disk = g.D.Disk.disk in
    record { goes_on = refl; end = end_found disk (disk c.args.disk) c.in-Ok.journal c.fold.new.journal c.add_mark.new.journal (λ d. g.met.D.Disk.lawful d) c.in-Ok.ensures.opened c.in-Ok.ensures.moves c.in-Ok-fold.folded (fold_of c.add_mark.new.folded) c.in-Ok-fold.ensures.reads c.in-Ok-fold.ensures.journal c.in-Ok-fold.ensures.folds c.in-Ok-add_mark.ensures; marked = items_found disk (disk c.args.disk) c.in-Ok.journal c.fold.new.journal c.add_mark.new.journal (λ d. g.met.D.Disk.lawful d) c.in-Ok.ensures.opened c.in-Ok.ensures.moves c.in-Ok-fold.folded (fold_of c.add_mark.new.folded) c.in-Ok-fold.ensures.reads c.in-Ok-fold.ensures.journal c.in-Ok-fold.ensures.folds c.in-Ok-add_mark.ensures }

pub returns-in-Ok-add_mark-clause-moves : goal.returns-in-Ok-add_mark-clause-moves
returns-in-Ok-add_mark-clause-moves g c =
    let disk = g.D.Disk.disk in
    mark_whole disk (disk c.args.disk) c.in-Ok.journal c.fold.new.journal c.add_mark.new.journal (λ d. g.met.D.Disk.lawful d) c.in-Ok.ensures.opened c.in-Ok.ensures.moves c.in-Ok-fold.folded (fold_of c.add_mark.new.folded) c.in-Ok-fold.ensures.reads c.in-Ok-fold.ensures.journal c.in-Ok-fold.ensures.folds c.in-Ok-add_mark.ensures

pub returns-in-Ok-add_mark-clause-room : goal.returns-in-Ok-add_mark-clause-room
returns-in-Ok-add_mark-clause-room g c =
    let disk = g.D.Disk.disk in
    mark_room disk (disk c.args.disk) c.in-Ok.journal c.fold.new.journal c.add_mark.new.journal (λ d. g.met.D.Disk.lawful d) c.in-Ok.ensures.opened c.in-Ok.ensures.moves c.in-Ok-fold.folded (fold_of c.add_mark.new.folded) c.in-Ok-fold.ensures.reads c.in-Ok-fold.ensures.journal c.in-Ok-fold.ensures.folds c.in-Ok.ensures.room c.in-Ok-add_mark.ensures

pub returns-in-Err-add_mark-clause-refused : goal.returns-in-Err-add_mark-clause-refused
returns-in-Err-add_mark-clause-refused g c =
    let disk = g.D.Disk.disk in
    mark_cause disk (disk c.args.disk) c.in-Ok.journal c.fold.new.journal c.add_mark.new.journal (λ d. g.met.D.Disk.lawful d) c.in-Ok.ensures.opened c.in-Ok.ensures.moves c.in-Ok-fold.folded (fold_of c.add_mark.new.folded) c.in-Ok-fold.ensures.reads c.in-Ok-fold.ensures.journal c.in-Ok-fold.ensures.folds c.in-Err-add_mark.fault c.in-Err-add_mark.ensures

pub returns-in-Err-add_mark-clause-moves_refused : goal.returns-in-Err-add_mark-clause-moves_refused
returns-in-Err-add_mark-clause-moves_refused g c =
    let disk = g.D.Disk.disk in
    rw c.into_disk-in-Err-add_mark.ensures (mark_refused disk (disk c.args.disk) c.in-Ok.journal c.fold.new.journal c.add_mark.new.journal (λ d. g.met.D.Disk.lawful d) c.in-Ok.ensures.opened c.in-Ok.ensures.moves c.in-Ok-fold.folded (fold_of c.add_mark.new.folded) c.in-Ok-fold.ensures.reads c.in-Ok-fold.ensures.journal c.in-Ok-fold.ensures.folds c.in-Err-add_mark.fault c.in-Err-add_mark.ensures)

pub returns-in-Err-add_mark-clause-room_refused : goal.returns-in-Err-add_mark-clause-room_refused
returns-in-Err-add_mark-clause-room_refused g c =
    let disk = g.D.Disk.disk in
    rw c.into_disk-in-Err-add_mark.ensures (mark_room_refused disk (disk c.args.disk) c.in-Ok.journal c.fold.new.journal c.add_mark.new.journal (λ d. g.met.D.Disk.lawful d) c.in-Ok.ensures.opened c.in-Ok.ensures.moves c.in-Ok-fold.folded (fold_of c.add_mark.new.folded) c.in-Ok-fold.ensures.reads c.in-Ok-fold.ensures.journal c.in-Ok-fold.ensures.folds c.in-Ok.ensures.room c.in-Err-add_mark.fault c.in-Err-add_mark.ensures)

pub returns-in-Err-fold-clause-refused : goal.returns-in-Err-fold-clause-refused
returns-in-Err-fold-clause-refused g c =
    let disk = g.D.Disk.disk in
    walk_cause disk (disk c.args.disk) c.in-Ok.journal c.in-Ok.ensures.opened c.in-Err-fold.fault c.in-Err-fold.ensures.folds

pub returns-in-Err-fold-clause-moves_refused : goal.returns-in-Err-fold-clause-moves_refused
returns-in-Err-fold-clause-moves_refused g c =
    let disk = g.D.Disk.disk in
    rw c.into_disk.ensures (walk_refused (disk c.args.disk) (disk c.in-Ok.journal.disk) (disk c.fold.new.journal.disk) (g.met.D.Disk.lawful _) c.in-Ok.ensures.moves c.in-Err-fold.fault c.in-Err-fold.ensures.reads)

pub returns-in-Err-fold-clause-room_refused : goal.returns-in-Err-fold-clause-room_refused
returns-in-Err-fold-clause-room_refused g c =
    let disk = g.D.Disk.disk in
    rw c.into_disk.ensures (walk_lacks (disk c.args.disk) (disk c.in-Ok.journal.disk) (disk c.fold.new.journal.disk) c.in-Ok.ensures.moves c.in-Ok.ensures.room c.in-Err-fold.fault c.in-Err-fold.ensures.reads)

pub returns-in-Err-clause-refused : goal.returns-in-Err-clause-refused
returns-in-Err-clause-refused g c =
    let disk = g.D.Disk.disk in
    journal_cause c.in-Err.refused.fault (disk c.args.disk).bytes c.in-Err.ensures.refused

pub returns-in-Err-clause-moves_refused : goal.returns-in-Err-clause-moves_refused
returns-in-Err-clause-moves_refused g c =
    let disk = g.D.Disk.disk in
    journal_unopened c.in-Err.refused.fault (disk c.args.disk) (disk c.in-Err.refused.disk) c.in-Err.ensures.moves_refused

pub returns-in-Err-clause-room_refused : goal.returns-in-Err-clause-room_refused
returns-in-Err-clause-room_refused g c =
    let disk = g.D.Disk.disk in
    journal_refused c.in-Err.refused.fault (disk c.args.disk) (disk c.in-Err.refused.disk) c.in-Err.ensures.moves_refused c.in-Err.ensures.room_refused
