use Rattle.std.proofs.Common.{sym, subst}
use Rattle.fix_base.specs.End.{IsAppAt}
use Rattle.fix_store.proofs.store.Store.withhold.Goals as goal

pub keep-requires-clause-may : goal.keep-requires-clause-may
keep-requires-clause-may g c = λ e holds.
    let app = c.requires.app e holds in
    (app.0, subst (λ n. IsAppAt e.out n app.0) (sym c.get.ensures.value) app.1)
