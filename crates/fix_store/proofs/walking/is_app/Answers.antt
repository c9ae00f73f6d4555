use Rattle.std.proofs.Common.{◌∙◌}
use Rattle.fix_store.proofs.WalkLemmas.{names_entry}
use Rattle.fix_store.proofs.walking.is_app.Goals as goal

pub returns-in-Ok-clause-is : goal.returns-in-Ok-clause-is
returns-in-Ok-clause-is g c = λ payloads items out holds first counts.
    let found = (c.in-Ok.ensures.found payloads items out holds first counts tt).0 in
    names_entry out c.args.number found.entry found.at c.has_app.result (c.has_app.ensures found.entry (record { item = found.part.item; fit = found.part.fit; is = c.deref.ensures.value ∙ found.part.is; there = found.part.there }))
