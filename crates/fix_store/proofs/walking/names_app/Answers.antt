use Rattle.std.proofs.Common.{sym, subst, ◌↔◌}
use Rattle.std.specs.Prelude.{IfOk, IsTrue}
use Rattle.fix_store.specs.Reading.{new_content, taken_all}
use Rattle.fix_store.specs.Folding.{fold_of, NamesApp, IsFitChange, MayTake}
use Rattle.fix_store.proofs.WalkLemmas.{up_first}
use Rattle.fix_store.proofs.walking.names_app.Goals as goal

pub is_app-requires-clause-first : goal.is_app-requires-clause-first
is_app-requires-clause-first g c = subst IsFitChange c.in-Withhold.is c.requires.fits

pub is_app-requires-clause-last : goal.is_app-requires-clause-last
is_app-requires-clause-last g c = subst (MayTake (fold_of c.args.folded.now)) c.in-Withhold.is c.requires.may

pub returns-in-Withhold-clause-names : goal.returns-in-Withhold-clause-names
returns-in-Withhold-clause-names g c = λ payloads index items holds up few.
    let e = (taken_all new_content items).end in
    subst (λ ch. IfOk c.is_app.result (λ x. IsTrue x ↔ NamesApp ch e)) (sym c.in-Withhold.is)
    (c.is_app.ensures.is payloads items e.out holds (up_first payloads index c.args.journal.now.count items (fold_of c.args.folded.now) up few) up.folds.counts)
