use Rattle.std.proofs.Common.{◌≡◌, length, take, refl, sym, ap, subst, ◌∙◌, true≢false, arith}
use Rattle.fix_journal.specs.Format.{front}
use Rattle.fix_store.specs.Reading.{new_content, taken_all}
use Rattle.fix_store.specs.Folding.{fold_of, fold_with, item_of, change_of, MayTake, NamesApp}
use Rattle.fix_store.proofs.WalkLemmas.{takes_fault, takes_none, takes_untaken, takes_unnamed, takes_it, up_few, stands_still}
use Rattle.fix_store.proofs.CountLemmas.{searchable}
use Rattle.fix_store.proofs.walking.take_next.Goals as goal

pub returns-in-Err-clause-takes : goal.returns-in-Err-clause-takes
returns-in-Err-clause-takes g c = λ payloads items holds up. takes_fault c.in-Err.fault c.in-Err.ensures.whole c.args.cursor.now.index payloads items _ _

pub returns-in_default-clause-takes : goal.returns-in_default-clause-takes
returns-in_default-clause-takes g c = λ payloads items holds up.
    let f = fold_of c.args.folded.now in
    takes_none payloads c.args.cursor.now.index items f f c.read.new.payload.items c.place-place.result up (c.in-Ok.ensures.read payloads holds)
    (c.place-place.ensures ∙ c.requires.stands c.requires.goes_on payloads holds)
    (λ i fit is. c.in_default.ensures i fit (c.deref.ensures.value ∙ is))

pub returns-then-not-may_take-clause-takes : goal.returns-then-not-may_take-clause-takes
returns-then-not-may_take-clause-takes g c = λ payloads items holds up.
    let f = fold_of c.args.folded.now in
    let i = item_of c.in-Some.spelt in
    takes_untaken payloads c.args.cursor.now.index items f f c.read.new.payload.items c.place-place.result up (c.in-Ok.ensures.read payloads holds)
    (c.place-place.ensures ∙ c.requires.stands c.requires.goes_on payloads holds)
    i c.in-Some.ensures.0 (sym c.deref.ensures.value ∙ c.in-Some.ensures.1)
    (λ may. true≢false (sym (c.if-not-may_take.ensures.1 (subst (MayTake f) (sym c.change_read-change.ensures) may))))

pub returns-in-Err-names_app-clause-takes : goal.returns-in-Err-names_app-clause-takes
returns-in-Err-names_app-clause-takes g c = λ payloads items holds up. takes_fault c.in-Err-names_app.fault c.in-Err-names_app.ensures.whole c.args.cursor.now.index payloads items _ _

pub returns-then-not-named-clause-takes : goal.returns-then-not-named-clause-takes
returns-then-not-named-clause-takes g c = λ payloads items holds up.
    let f = fold_of c.args.folded.now in
    let i = item_of c.in-Some.spelt in
    let e = (taken_all new_content items).end in
    let bytes = c.in-Ok.ensures.reads.same.bytes ∙ holds.1 in
    let so = c.in-Ok-names_app.ensures.names payloads c.args.cursor.now.index items (holds.0, bytes, holds.2) up (omega (arith, up_few payloads c.args.cursor.now.index items f up, c.requires.index, c.in-Ok.ensures.journal.count)) in
    takes_unnamed payloads c.args.cursor.now.index items f f c.read.new.payload.items c.place-place.result up (c.in-Ok.ensures.read payloads holds)
    (c.place-place.ensures ∙ c.requires.stands c.requires.goes_on payloads holds)
    i c.in-Some.ensures.0 (sym c.deref.ensures.value ∙ c.in-Some.ensures.1)
    (λ names. true≢false (sym (so.1 (subst (λ ch. NamesApp ch e) (sym c.change_read-change.ensures) names)) ∙ c.if-not-named.true))

pub returns-clause-takes : goal.returns-clause-takes
returns-clause-takes g c = λ payloads items holds up.
    let f = fold_of c.args.folded.now in
    let i = item_of c.in-Some.spelt in
    let e = (taken_all new_content items).end in
    let bytes = c.in-Ok.ensures.reads.same.bytes ∙ holds.1 in
    let so = c.in-Ok-names_app.ensures.names payloads c.args.cursor.now.index items (holds.0, bytes, holds.2) up (omega (arith, up_few payloads c.args.cursor.now.index items f up, c.requires.index, c.in-Ok.ensures.journal.count)) in
    let change = c.change_read-change.result in
    let taken : fold_of c.take.new.self ≡ fold_with c.args.cursor.now.index f (change_of i) = c.take.ensures ∙ ap (λ n. fold_with n (fold_of c.reserve.new.self) change) c.index-index.ensures ∙ ap (λ h. fold_with c.args.cursor.now.index h change) c.reserve.ensures.same ∙ ap (fold_with c.args.cursor.now.index f) c.change_read-change.ensures in
    takes_it payloads c.args.cursor.now.index items f (fold_of c.take.new.self) c.read.new.payload.items (length (front (take c.args.cursor.now.index payloads))) up (c.in-Ok.ensures.read payloads holds) refl
    i c.in-Some.ensures.0 (sym c.deref.ensures.value ∙ c.in-Some.ensures.1) c.requires.within.few
    (subst (MayTake f) c.change_read-change.ensures (c.if-not-may_take.ensures.0 refl))
    (subst (λ ch. NamesApp ch e) c.change_read-change.ensures (so.0 c.if-not-named.false)) taken

pub returns-clause-steps : goal.returns-clause-steps
returns-clause-steps g c =
    let f = fold_of c.args.folded.now in
    let i = item_of c.in-Some.spelt in
    let change = c.change_read-change.result in
    let taken : fold_of c.take.new.self ≡ fold_with c.args.cursor.now.index f (change_of i) = c.take.ensures ∙ ap (λ n. fold_with n (fold_of c.reserve.new.self) change) c.index-index.ensures ∙ ap (λ h. fold_with c.args.cursor.now.index h change) c.reserve.ensures.same ∙ ap (fold_with c.args.cursor.now.index f) c.change_read-change.ensures in
    (i, c.in-Some.ensures.0, subst (MayTake f) c.change_read-change.ensures (c.if-not-may_take.ensures.0 refl), taken)

pub returns-clause-stands : goal.returns-clause-stands
returns-clause-stands g c = stands_still g.D.Disk.disk c.read.new.journal c.names_app.new.journal c.read.new.cursor c.in-Ok.ensures.journal.stopped c.in-Ok-names_app.ensures.reads.same c.in-Ok.ensures.stands

pub names_app-requires-clause-searchable : goal.names_app-requires-clause-searchable
names_app-requires-clause-searchable g c = searchable _ c.args.cursor.now.index c.requires.within.counted _ (omega (arith, c.requires.index, c.in-Ok.ensures.journal.count))

pub take-requires-clause-may : goal.take-requires-clause-may
take-requires-clause-may g c = subst (λ h. MayTake h c.change_read-change.result) (sym c.reserve.ensures.same) (c.if-not-may_take.ensures.0 refl)
