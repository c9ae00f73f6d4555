use Rattle.std.proofs.Common.{[], ◌∷◌, refl, sym, subst, Some, None, Ok, Err}
use Rattle.fix_base.specs.declared.act.Act.TheVariants as act
use Rattle.fix_store.specs.declared.fault.StoreFault.TheVariants as fault
use Rattle.fix_base.specs.Trace.{Rises}
use Rattle.fix_store.specs.Store.{store_failures}
use Rattle.fix_outside.specs.declared.outside.KeepFault.TheVariants as keep
use Rattle.fix_outside.specs.Outside.{HasPlace}
use Rattle.fix_rim.specs.StoreSlot.{disk_in, open_in, DiskMoves, KeepLeaves, NamesAppOn}
use Rattle.fix_rim.proofs.SlotLemmas.{told_end, still_then, kept_moves, lost_moves, kept_leaves, lost_leaves, numbered}
use Rattle.fix_rim.proofs.slot_contents.keep_in.Goals as goal

pub returns-in-Ok-clause-moves : goal.returns-in-Ok-clause-moves
returns-in-Ok-clause-moves g c =
    let disk = g.D.Disk.disk in
    let s = c.in-Open.store in
    subst (λ h. DiskMoves (act.Kept c.args.kept.now ∷ []) 0 (disk_in disk h) (disk c.keep_on.new.store.disk)) (sym c.in-Open.is)
    (kept_moves (disk s.disk) (disk c.keep_on.new.store.disk) c.args.kept.now None (c.in-Ok.ensures.moves c.in-Ok.ensures.answers.0) (told_end disk s c.in-Ok.ensures.told c.in-Ok.ensures.answers.0) refl (c.in-Ok.ensures.moves c.in-Ok.ensures.answers.0).cause)

pub returns-in-Ok-clause-leaves : goal.returns-in-Ok-clause-leaves
returns-in-Ok-clause-leaves g c =
    let disk = g.D.Disk.disk in
    let s = c.in-Open.store in
    subst (λ h. KeepLeaves {T = Unit {0}} (Ok tt) c.args.kept.now (disk_in disk h) (disk c.keep_on.new.store.disk)) (sym c.in-Open.is)
    (kept_leaves (disk s.disk) (disk c.keep_on.new.store.disk) c.args.kept.now None (c.in-Ok.ensures.moves c.in-Ok.ensures.answers.0) (told_end disk s c.in-Ok.ensures.told c.in-Ok.ensures.answers.0) refl)

pub returns-in-Err-DiskFault-clause-moves : goal.returns-in-Err-DiskFault-clause-moves
returns-in-Err-DiskFault-clause-moves g c =
    let disk = g.D.Disk.disk in
    let s = c.in-Open.store in
    let failed = c.in-Err-DiskFault in
    let still = still_then s c.keep_on.new.store c.args.kept.now failed.field-0 fault.DiskFault failed.field-0-is refl failed.ensures.answers in
    let keeps = failed.ensures.moves still in
    subst (λ h. DiskMoves (act.KeepLost c.args.kept.now ∷ []) 1 (disk_in disk h) (disk c.keep_on.new.store.disk)) (sym c.in-Open.is)
    (lost_moves (disk s.disk) (disk c.keep_on.new.store.disk) c.args.kept.now (Some failed.field-0) keeps (told_end disk s failed.ensures.told still)
    (subst (λ x. Rises (store_failures (Some x)) (disk s.disk).faults (disk c.keep_on.new.store.disk).faults) failed.field-0-is keeps.cause))

pub returns-in-Err-DiskFault-clause-leaves : goal.returns-in-Err-DiskFault-clause-leaves
returns-in-Err-DiskFault-clause-leaves g c =
    let disk = g.D.Disk.disk in
    let s = c.in-Open.store in
    let failed = c.in-Err-DiskFault in
    let still = still_then s c.keep_on.new.store c.args.kept.now failed.field-0 fault.DiskFault failed.field-0-is refl failed.ensures.answers in
    let keeps = failed.ensures.moves still in
    subst (λ h. KeepLeaves {T = Unit {0}} (Err keep.Failed) c.args.kept.now (disk_in disk h) (disk c.keep_on.new.store.disk)) (sym c.in-Open.is)
    (lost_leaves (disk s.disk) (disk c.keep_on.new.store.disk) c.args.kept.now (Some failed.field-0) keeps (told_end disk s failed.ensures.told still) keep.Failed)

pub keep_on-requires-clause-numbered : goal.keep_on-requires-clause-numbered
keep_on-requires-clause-numbered g c = numbered c.args.kept.now c.in-Open.store.stopped c.in-Open.store.stored (subst (λ h. HasPlace c.args.kept.now (open_in h)) c.in-Open.is c.requires.place)

pub keep_on-requires-clause-named : goal.keep_on-requires-clause-named
keep_on-requires-clause-named g c = subst (λ h. NamesAppOn c.args.kept.now (disk_in g.D.Disk.disk h)) c.in-Open.is c.requires.named
