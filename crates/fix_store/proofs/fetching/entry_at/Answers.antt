use Rattle.std.proofs.Common.{◌∙◌, sym, refl}
use Rattle.fix_store.proofs.fetching.entry_at.Goals as goal

pub returns-clause-reads : goal.returns-clause-reads
returns-clause-reads c =
    let parts = c.part_of-parts.result in
    let within = c.part_of-parts.ensures.within in
    (c.cut.result.items, c.entry_of.ensures.reads, λ i entry fit is at. c.cut.ensures within.0 parts.0.now parts.1.now (sym c.deref.ensures.value ∙ within.1) refl refl ∙ c.part_of-parts.ensures.is i entry fit (c.deref.ensures.value ∙ is) at)
