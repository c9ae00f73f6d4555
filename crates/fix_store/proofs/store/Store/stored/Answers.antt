use Rattle.fix_store.specs.Folding.{fold_of}
use Rattle.fix_store.proofs.CallLemmas.{told_of}
use Rattle.fix_store.proofs.store.Store.stored.Goals as goal

pub returns-clause-told : goal.returns-clause-told
returns-clause-told g c =
    let s = c.self.inside in
    rw (← c.self.view_is) (told_of g.D.Disk.disk s.journal (fold_of s.folded) s.near s.stopped c.self.invariant)
