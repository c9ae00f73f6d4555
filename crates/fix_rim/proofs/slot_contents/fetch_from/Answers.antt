use Rattle.std.proofs.Common.{sym, subst}
use Rattle.fix_base.specs.End.{End}
use Rattle.fix_store.specs.Store.{HoldsEnd}
use Rattle.fix_rim.specs.StoreSlot.{disk_in, IsHeldAs}
use Rattle.fix_rim.proofs.SlotLemmas.{held_as, tells_held}
use Rattle.fix_rim.proofs.slot_contents.fetch_from.Goals as goal

pub returns-in-Ok-clause-held : goal.returns-in-Ok-clause-held
returns-in-Ok-clause-held g c =
    let disk = g.D.Disk.disk in
    let s = c.in-Open.store in
    subst (λ h. (e : End) → HoldsEnd (disk_in disk h) e → IsHeldAs c.give.result c.args.n e) (sym c.in-Open.is)
    (held_as (disk s.disk) c.args.n c.withheld-withheld.result (tells_held disk s c.withheld-withheld.ensures.told c.in-Ok.ensures.answers.0 c.args.n c.withheld-withheld.result c.withheld-withheld.ensures.is) c.give.result c.give.ensures.held)
