use Rattle.std.proofs.Common.{inr, ◌∙◌, refl}
use Rattle.fix_store.proofs.fetching.entry_of.Goals as goal

pub returns-in-None-clause-reads : goal.returns-in-None-clause-reads
returns-in-None-clause-reads c = inr (λ other fits is. c.in-None.ensures other fits (c.deref.ensures.value ∙ is), refl)
