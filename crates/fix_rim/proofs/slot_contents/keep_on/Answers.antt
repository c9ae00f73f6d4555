use Rattle.std.proofs.Common.{sym, subst}
use Rattle.fix_base.specs.End.{IsAppAt}
use Rattle.fix_rim.specs.StoreSlot.{NamesAppOn}
use Rattle.fix_rim.proofs.slot_contents.keep_on.Goals as goal

pub withhold-requires-clause-app : goal.withhold-requires-clause-app
withhold-requires-clause-app g c = λ e holds.
    let named = subst (λ r. NamesAppOn r (g.D.Disk.disk c.args.store.now.disk)) c.in-Withhold.is c.requires.named in
    let app = named e holds in
    (app.0, subst (λ m. IsAppAt e.out m app.0) (sym c.in-Some.ensures.1) app.1)
