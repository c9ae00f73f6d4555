use Rattle.std.proofs.Common.{◌≡◌, ◌∙◌, length, refl, sym, ap, subst, Ok, Err, true≢false, arith}
use Rattle.fix_store.specs.declared.fault.StoreFault.TheVariants.{NumbersSpent, OutOfMemory}
use Rattle.fix_store.specs.Spelling.{spelled, keeps}
use Rattle.fix_store.specs.Store.{MayKeep}
use Rattle.fix_store.specs.Folding.{fold_of, fold_with, record_of, change_of, MayTake, HasPlaceIn, stored_in}
use Rattle.fix_store.specs.Sound.{IsSound}
use Rattle.fix_store.proofs.KeepLemmas.{calm, keeps_at, sound_at, sound_failed, refused, when_ok, follows}
use Rattle.fix_store.proofs.Spellings.{is_payload}
use Rattle.fix_store.proofs.RoomLemmas.{room_at}
use Rattle.fix_store.proofs.CallLemmas.{told_of, answers_ok, answers_spent, answers_without, answers_failed}
use Rattle.fix_store.proofs.store.Store.keep.Goals as goal

pub returns-then-self-clause-told : goal.returns-then-self-clause-told
returns-then-self-clause-told g c =
    let s = c.self.inside in
    let disk = g.D.Disk.disk in
    let f = fold_of s.folded in
    let r = record_of c.args.kept.now in
    rw (← c.self.view_is) (told_of disk s.journal f s.near s.stopped c.self.invariant)

pub returns-then-not-may_take-clause-told : goal.returns-then-not-may_take-clause-told
returns-then-not-may_take-clause-told g c =
    let s = c.self.inside in
    let disk = g.D.Disk.disk in
    let f = fold_of s.folded in
    let r = record_of c.args.kept.now in
    rw (← c.self.view_is) (told_of disk s.journal f s.near s.stopped c.self.invariant)

pub returns-then-is_err-clause-told : goal.returns-then-is_err-clause-told
returns-then-is_err-clause-told g c =
    let s = c.self.inside in
    let disk = g.D.Disk.disk in
    let f = fold_of s.folded in
    let r = record_of c.args.kept.now in
    rw (← c.self.view_is) (told_of disk s.journal f s.near s.stopped c.self.invariant)

pub returns-in-Ok-clause-told : goal.returns-in-Ok-clause-told
returns-in-Ok-clause-told g c =
    let s = c.self.inside in
    let disk = g.D.Disk.disk in
    let f = fold_of s.folded in
    let r = record_of c.args.kept.now in
    rw (← c.self.view_is) (told_of disk s.journal f s.near s.stopped c.self.invariant)

pub returns-in-Err-clause-told : goal.returns-in-Err-clause-told
returns-in-Err-clause-told g c =
    let s = c.self.inside in
    let disk = g.D.Disk.disk in
    let f = fold_of s.folded in
    let r = record_of c.args.kept.now in
    rw (← c.self.view_is) (told_of disk s.journal f s.near s.stopped c.self.invariant)

pub returns-then-not-may_take-clause-answers : goal.returns-then-not-may_take-clause-answers
returns-then-not-may_take-clause-answers g c =
    let s = c.self.inside in
    let disk = g.D.Disk.disk in
    let f = fold_of s.folded in
    let r = record_of c.args.kept.now in
    let place : HasPlaceIn (stored_in f) r = rw (← c.self.view_is) at c.requires.place in
    rw (← c.self.view_is) (answers_spent s.journal.disk s.journal.disk f f s.near r s.stopped c.if-self.false c.self.invariant.within.few c.self.invariant.marked place (λ may. true≢false (sym (c.if-not-may_take.ensures.1 (subst (MayTake f) (sym c.change_kept-change.ensures) may)))))

pub returns-then-not-may_take-clause-moves : goal.returns-then-not-may_take-clause-moves
returns-then-not-may_take-clause-moves g c =
    let s = c.self.inside in
    let disk = g.D.Disk.disk in
    let f = fold_of s.folded in
    let r = record_of c.args.kept.now in
    let sound = calm disk s.journal f s.near s.stopped c.if-self.false c.self.invariant in
    rw (← c.self.view_is) (λ still. refused disk s.journal f s.near sound r (g.met.D.Disk.lawful _) NumbersSpent refl)

pub returns-then-is_err-clause-answers : goal.returns-then-is_err-clause-answers
returns-then-is_err-clause-answers g c =
    let s = c.self.inside in
    let disk = g.D.Disk.disk in
    let f = fold_of s.folded in
    let r = record_of c.args.kept.now in
    let has : MayTake f (change_of (keeps r)) = subst (MayTake f) c.change_kept-change.ensures (c.if-not-may_take.ensures.0 refl) in
    rw (← c.self.view_is) (answers_without s.journal.disk s.journal.disk f (fold_of c.stage.new.folded) s.near r s.stopped c.if-self.false has c.stage.ensures.same)

pub returns-then-is_err-clause-moves : goal.returns-then-is_err-clause-moves
returns-then-is_err-clause-moves g c =
    let s = c.self.inside in
    let disk = g.D.Disk.disk in
    let f = fold_of s.folded in
    let r = record_of c.args.kept.now in
    let sound = calm disk s.journal f s.near s.stopped c.if-self.false c.self.invariant in
    rw (← c.self.view_is) (λ still. refused disk s.journal f s.near sound r (g.met.D.Disk.lawful _) OutOfMemory refl)

pub invariant_of-self-in-Ok : goal.invariant_of-self-in-Ok
invariant_of-self-in-Ok g c =
    let s = c.self.inside in
    let disk = g.D.Disk.disk in
    let f = fold_of s.folded in
    let r = record_of c.args.kept.now in
    let sound = calm disk s.journal f s.near s.stopped c.if-self.false c.self.invariant in
    let has : MayTake f (change_of (keeps r)) = subst (MayTake f) c.change_kept-change.ensures (c.if-not-may_take.ensures.0 refl) in
    let may : MayKeep (disk s.journal.disk) r = rw (← c.self.view_is) at c.requires.may in
    let payload : c.deref.result.now ≡ spelled r = c.deref.ensures.value ∙ when_ok c.stage.result c.if-is_err.ensures.value c.stage.ensures.payload in
    let taken : fold_of c.take.new.self ≡ fold_with c.in-Ok.index f (change_of (keeps r)) = c.take.ensures ∙ ap (λ x. fold_with c.in-Ok.index x c.change_kept-change.result) c.stage.ensures.same ∙ ap (fold_with c.in-Ok.index f) c.change_kept-change.ensures in
    subst (λ h. IsSound disk c.append.new.journal h s.near c.append.new.stopped) (sym taken) (sound_at disk s.journal f s.near sound r c.requires.fits may has c.in-Ok.index c.deref.result.now c.append.new.journal payload c.in-Ok.ensures.answers c.in-Ok.ensures.moves c.in-Ok.ensures.cursors c.append.new.stopped c.in-Ok.ensures.stops)

pub invariant_of-self-in-Err : goal.invariant_of-self-in-Err
invariant_of-self-in-Err g c =
    let s = c.self.inside in
    let disk = g.D.Disk.disk in
    let f = fold_of s.folded in
    let r = record_of c.args.kept.now in
    let sound = calm disk s.journal f s.near s.stopped c.if-self.false c.self.invariant in
    sound_failed disk s.journal c.append.new.journal f (fold_of c.stage.new.folded) s.near c.in-Err.fault c.append.new.stopped sound c.stage.ensures.same c.in-Err.ensures.stops c.in-Err.ensures.answers c.in-Err.ensures.cursors

pub returns-in-Ok-clause-answers : goal.returns-in-Ok-clause-answers
returns-in-Ok-clause-answers g c =
    let s = c.self.inside in
    let disk = g.D.Disk.disk in
    let f = fold_of s.folded in
    let r = record_of c.args.kept.now in
    let has : MayTake f (change_of (keeps r)) = subst (MayTake f) c.change_kept-change.ensures (c.if-not-may_take.ensures.0 refl) in
    let taken : fold_of c.take.new.self ≡ fold_with c.in-Ok.index f (change_of (keeps r)) = c.take.ensures ∙ ap (λ x. fold_with c.in-Ok.index x c.change_kept-change.result) c.stage.ensures.same ∙ ap (fold_with c.in-Ok.index f) c.change_kept-change.ensures in
    rw (← c.self.view_is) (answers_ok s.journal.disk c.append.new.journal.disk f (fold_of c.take.new.self) s.near r s.stopped c.if-self.false c.in-Ok.index c.append.new.stopped (c.in-Ok.ensures.stops ∙ c.in-Ok.ensures.answers.2) has taken)

pub returns-in-Err-clause-answers : goal.returns-in-Err-clause-answers
returns-in-Err-clause-answers g c =
    let s = c.self.inside in
    let disk = g.D.Disk.disk in
    let f = fold_of s.folded in
    let r = record_of c.args.kept.now in
    let sound = calm disk s.journal f s.near s.stopped c.if-self.false c.self.invariant in
    let has : MayTake f (change_of (keeps r)) = subst (MayTake f) c.change_kept-change.ensures (c.if-not-may_take.ensures.0 refl) in
    rw (← c.self.view_is) (answers_failed s.journal c.append.new.journal f (fold_of c.stage.new.folded) s.near r s.stopped c.append.new.stopped c.if-self.false (sym sound.stops) c.in-Err.ensures.stops has c.stage.ensures.same c.in-Err.fault c.in-Err.ensures.answers)

pub returns-in-Ok-clause-moves : goal.returns-in-Ok-clause-moves
returns-in-Ok-clause-moves g c =
    let s = c.self.inside in
    let disk = g.D.Disk.disk in
    let f = fold_of s.folded in
    let r = record_of c.args.kept.now in
    let sound = calm disk s.journal f s.near s.stopped c.if-self.false c.self.invariant in
    let has : MayTake f (change_of (keeps r)) = subst (MayTake f) c.change_kept-change.ensures (c.if-not-may_take.ensures.0 refl) in
    let may : MayKeep (disk s.journal.disk) r = rw (← c.self.view_is) at c.requires.may in
    let payload : c.deref.result.now ≡ spelled r = c.deref.ensures.value ∙ when_ok c.stage.result c.if-is_err.ensures.value c.stage.ensures.payload in
    rw (← c.self.view_is) (λ still. keeps_at disk s.journal f s.near sound r c.requires.fits may has (Ok c.in-Ok.index) c.deref.result.now c.append.new.journal payload c.in-Ok.ensures.moves)

pub returns-in-Ok-clause-room : goal.returns-in-Ok-clause-room
returns-in-Ok-clause-room g c =
    let s = c.self.inside in
    let disk = g.D.Disk.disk in
    let f = fold_of s.folded in
    let r = record_of c.args.kept.now in
    let sound = calm disk s.journal f s.near s.stopped c.if-self.false c.self.invariant in
    let has : MayTake f (change_of (keeps r)) = subst (MayTake f) c.change_kept-change.ensures (c.if-not-may_take.ensures.0 refl) in
    let may : MayKeep (disk s.journal.disk) r = rw (← c.self.view_is) at c.requires.may in
    let payload : c.deref.result.now ≡ spelled r = c.deref.ensures.value ∙ when_ok c.stage.result c.if-is_err.ensures.value c.stage.ensures.payload in
    rw (← c.self.view_is) (room_at disk s.journal f s.near sound r c.deref.result.now c.append.new.journal payload c.in-Ok.ensures.room (follows disk s.journal f s.near sound r c.requires.fits may has) (Ok c.in-Ok.index) c.in-Ok.ensures.moves c.in-Ok.ensures.need)

pub returns-in-Err-clause-moves : goal.returns-in-Err-clause-moves
returns-in-Err-clause-moves g c =
    let s = c.self.inside in
    let disk = g.D.Disk.disk in
    let f = fold_of s.folded in
    let r = record_of c.args.kept.now in
    let sound = calm disk s.journal f s.near s.stopped c.if-self.false c.self.invariant in
    let has : MayTake f (change_of (keeps r)) = subst (MayTake f) c.change_kept-change.ensures (c.if-not-may_take.ensures.0 refl) in
    let may : MayKeep (disk s.journal.disk) r = rw (← c.self.view_is) at c.requires.may in
    let payload : c.deref.result.now ≡ spelled r = c.deref.ensures.value ∙ when_ok c.stage.result c.if-is_err.ensures.value c.stage.ensures.payload in
    rw (← c.self.view_is) (λ still. keeps_at disk s.journal f s.near sound r c.requires.fits may has (Err c.in-Err.fault) c.deref.result.now c.append.new.journal payload c.in-Err.ensures.moves)

pub returns-in-Err-clause-room : goal.returns-in-Err-clause-room
returns-in-Err-clause-room g c =
    let s = c.self.inside in
    let disk = g.D.Disk.disk in
    let f = fold_of s.folded in
    let r = record_of c.args.kept.now in
    let sound = calm disk s.journal f s.near s.stopped c.if-self.false c.self.invariant in
    let has : MayTake f (change_of (keeps r)) = subst (MayTake f) c.change_kept-change.ensures (c.if-not-may_take.ensures.0 refl) in
    let may : MayKeep (disk s.journal.disk) r = rw (← c.self.view_is) at c.requires.may in
    let payload : c.deref.result.now ≡ spelled r = c.deref.ensures.value ∙ when_ok c.stage.result c.if-is_err.ensures.value c.stage.ensures.payload in
    rw (← c.self.view_is) (room_at disk s.journal f s.near sound r c.deref.result.now c.append.new.journal payload c.in-Err.ensures.room (follows disk s.journal f s.near sound r c.requires.fits may has) (Err c.in-Err.fault) c.in-Err.ensures.moves c.in-Err.ensures.need)

pub append-requires-clause-fits : goal.append-requires-clause-fits
append-requires-clause-fits g c =
    let s = c.self.inside in
    let disk = g.D.Disk.disk in
    let f = fold_of s.folded in
    let r = record_of c.args.kept.now in
    let payload : c.deref.result.now ≡ spelled r = c.deref.ensures.value ∙ when_ok c.stage.result c.if-is_err.ensures.value c.stage.ensures.payload in
    omega (arith, ap length payload, (is_payload r c.requires.fits).1)

pub append-requires-clause-some : goal.append-requires-clause-some
append-requires-clause-some g c =
    let s = c.self.inside in
    let disk = g.D.Disk.disk in
    let f = fold_of s.folded in
    let r = record_of c.args.kept.now in
    let payload : c.deref.result.now ≡ spelled r = c.deref.ensures.value ∙ when_ok c.stage.result c.if-is_err.ensures.value c.stage.ensures.payload in
    omega (arith, ap length payload, (is_payload r c.requires.fits).0)

pub take-requires-clause-may : goal.take-requires-clause-may
take-requires-clause-may g c = subst (λ h. MayTake h c.change_kept-change.result) (sym c.stage.ensures.same) (c.if-not-may_take.ensures.0 refl)
