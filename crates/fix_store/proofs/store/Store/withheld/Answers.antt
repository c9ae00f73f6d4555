use Rattle.std.proofs.Common.{◌∙◌, ap}
use Rattle.std.specs.FinSet as set
use Rattle.fix_store.specs.Folding.{fold_of, withheld_in}
use Rattle.fix_store.proofs.CallLemmas.{told_of}
use Rattle.fix_store.proofs.store.Store.withheld.Goals as goal

pub returns-clause-is : goal.returns-clause-is
returns-clause-is g c =
    rw (← c.self.view_is) (c.has.ensures ∙ ap (set.contains (withheld_in c.self.inside.folded.withheld)) c.get.ensures.value)

pub returns-clause-told : goal.returns-clause-told
returns-clause-told g c =
    let s = c.self.inside in
    rw (← c.self.view_is) (told_of g.D.Disk.disk s.journal (fold_of s.folded) s.near s.stopped c.self.invariant)
