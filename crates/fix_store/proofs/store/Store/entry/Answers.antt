use Rattle.std.proofs.Common.{Some, Ok, refl, sym, ◌∙◌, ap, subst}
use Rattle.fix_store.specs.Finding.{index_in}
use Rattle.fix_store.specs.Folding.{fold_of}
use Rattle.fix_store.specs.Opening.{StandsAt}
use Rattle.fix_store.specs.Sound.{IsSound}
use Rattle.fix_store.specs.Store.{StoreReads}
use Rattle.fix_store.proofs.KeepLemmas.{calm, reads_at, stands_at, read_soon, sound_read, found_near}
use Rattle.fix_store.proofs.store.Store.entry.Goals as goal

pub invariant_of-self : goal.invariant_of-self
invariant_of-self g c =
    let s = c.self.inside in
    let disk = g.D.Disk.disk in
    let f = fold_of s.folded in
    let near = c.take-near.result in
    let sound = calm disk s.journal f near s.stopped c.if-self.false (subst (λ n. IsSound disk s.journal f n s.stopped) (sym c.take-near.ensures.value) c.self.invariant) in
    sound_read disk s.journal c.find.new.journal f near (Some c.in-Ok.found) sound c.in-Ok.ensures.journal.count c.in-Ok.ensures.reads.same c.in-Ok.ensures.reads.tells_images c.in-Ok.ensures.spots
    (found_near disk s.journal f near sound c.in-Ok.found c.get.result c.find.new.payload.items c.in-Ok.ensures.found) s.stopped (c.if-self.false ∙ sym c.in-Ok.ensures.journal.stopped)

pub returns-in-Ok-clause-moves : goal.returns-in-Ok-clause-moves
returns-in-Ok-clause-moves g c =
    let s = c.self.inside in
    let disk = g.D.Disk.disk in
    let f = fold_of s.folded in
    let near = c.take-near.result in
    let sound = calm disk s.journal f near s.stopped c.if-self.false (subst (λ n. IsSound disk s.journal f n s.stopped) (sym c.take-near.ensures.value) c.self.invariant) in
    rw (← c.self.view_is)
    (λ still. subst (λ n. StoreReads (Ok c.entry_at.result) n (disk s.journal.disk) (disk c.find.new.journal.disk)) c.get.ensures.value
    (reads_at disk s.journal f near sound c.get.result c.find.new.payload.items c.in-Ok.found c.entry_at.result (disk c.find.new.journal.disk) c.in-Ok.ensures.found c.entry_at.ensures.reads c.entry_at.ensures.keepable c.in-Ok.ensures.reads c.in-Ok.ensures.calls))

pub returns-in-Ok-clause-near : goal.returns-in-Ok-clause-near
returns-in-Ok-clause-near g c =
    let s = c.self.inside in
    let disk = g.D.Disk.disk in
    let f = fold_of s.folded in
    let near = c.take-near.result in
    let sound = calm disk s.journal f near s.stopped c.if-self.false (subst (λ n. IsSound disk s.journal f n s.stopped) (sym c.take-near.ensures.value) c.self.invariant) in
    rw (← c.self.view_is)
    (λ still. (
      c.in-Ok.found.at.cursor.index,
      refl,
      subst (λ n. StandsAt (disk s.journal.disk) n c.in-Ok.found.at.cursor.index) c.get.ensures.value
          (stands_at disk s.journal f near sound c.get.result c.find.new.payload.items c.in-Ok.found c.in-Ok.ensures.found),
    ))

pub returns-in-Ok-clause-next : goal.returns-in-Ok-clause-next
returns-in-Ok-clause-next g c =
    let s = c.self.inside in
    let disk = g.D.Disk.disk in
    let f = fold_of s.folded in
    let near = c.take-near.result in
    let sound = calm disk s.journal f near s.stopped c.if-self.false (subst (λ n. IsSound disk s.journal f n s.stopped) (sym c.take-near.ensures.value) c.self.invariant) in
    rw (← c.self.view_is)
    (λ j k still some is stands low high. read_soon disk s.journal f near sound c.get.result j k _ some (ap index_in c.take-near.ensures.value ∙ is) (subst (λ n. StandsAt (disk s.journal.disk) n k) (sym c.get.ensures.value) stands) low high c.in-Ok.ensures.soon)

pub returns-in-Err-OutOfMemory-clause-next : goal.returns-in-Err-OutOfMemory-clause-next
returns-in-Err-OutOfMemory-clause-next g c =
    let s = c.self.inside in
    let disk = g.D.Disk.disk in
    let f = fold_of s.folded in
    let near = c.take-near.result in
    let sound = calm disk s.journal f near s.stopped c.if-self.false (subst (λ n. IsSound disk s.journal f n s.stopped) (sym c.take-near.ensures.value) c.self.invariant) in
    rw (← c.self.view_is)
    (λ j k still some is stands low high. read_soon disk s.journal f near sound c.get.result j k _ some (ap index_in c.take-near.ensures.value ∙ is) (subst (λ n. StandsAt (disk s.journal.disk) n k) (sym c.get.ensures.value) stands) low high c.in-Err-OutOfMemory.ensures.soon)

pub returns-clause-next : goal.returns-clause-next
returns-clause-next g c =
    let s = c.self.inside in
    let disk = g.D.Disk.disk in
    let f = fold_of s.folded in
    let near = c.take-near.result in
    let sound = calm disk s.journal f near s.stopped c.if-self.false (subst (λ n. IsSound disk s.journal f n s.stopped) (sym c.take-near.ensures.value) c.self.invariant) in
    rw (← c.self.view_is)
    (λ j k still some is stands low high. read_soon disk s.journal f near sound c.get.result j k _ some (ap index_in c.take-near.ensures.value ∙ is) (subst (λ n. StandsAt (disk s.journal.disk) n k) (sym c.get.ensures.value) stands) low high c.in-Err-DiskFault.ensures.soon)
