use Rattle.std.proofs.Common.{refl, sym, ◌∙◌, subst}
use Rattle.fix_store.specs.Folding.{lent_entry, IsApp}
use Rattle.fix_store.proofs.Spellings.{one_entry}
use Rattle.fix_store.proofs.KeepLemmas.{entry_fits}
use Rattle.fix_store.proofs.WalkLemmas.{app_so, admin_so}
use Rattle.fix_store.proofs.walking.has_app.Goals as goal

pub returns-in-Some-App : goal.returns-in-Some-App
returns-in-Some-App c = λ entry part.
    let is = c.part_of.ensures.is part.item entry part.fit part.is part.there in
    app_so entry _ (one_entry entry _ (entry_fits part.item part.fit c.args.nth entry part.there) c.in-Some-App.ensures.0 (sym is ∙ c.in-Some-App.ensures.1)) (subst (λ e. IsApp (lent_entry e)) (sym c.in-Some-App.field-0-is) tt)

pub returns-in-Some-Admin : goal.returns-in-Some-Admin
returns-in-Some-Admin c = λ entry part.
    let is = c.part_of.ensures.is part.item entry part.fit part.is part.there in
    admin_so entry _ (one_entry entry _ (entry_fits part.item part.fit c.args.nth entry part.there) c.in-Some-Admin.ensures.0 (sym is ∙ c.in-Some-Admin.ensures.1)) (λ app. subst (λ e. IsApp (lent_entry e)) c.in-Some-Admin.field-0-is app)

pub returns-in-None : goal.returns-in-None
returns-in-None c = λ entry part.
    let is = c.part_of.ensures.is part.item entry part.fit part.is part.there in
    admin_so entry entry refl (λ app. c.in-None.ensures entry (entry_fits part.item part.fit c.args.nth entry part.there) is)
