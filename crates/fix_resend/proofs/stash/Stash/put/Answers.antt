use Rattle.fix_resend.proofs.WaitingLemmas.{seen_insert, held_more}
use Rattle.fix_resend.proofs.stash.Stash.put.Goals as goal

pub invariant_of-self-2 : goal.invariant_of-self-2
invariant_of-self-2 c = rw c.as_slice-size.ensures (held_more c.self.inside.frames c.insert.new.self _ _ _ _ _ _ c.self.invariant c.self.view_is c.get.ensures.value c.requires.apart c.requires.room c.in-Ok.ensures.updates.0 c.in-Ok.ensures.old c.in-Ok.ensures.len)

pub returns-clause-ok : goal.returns-clause-ok
returns-clause-ok c = seen_insert c.self.inside.frames c.insert.new.self _ _ _ _ c.self.view_is c.get.ensures.value c.in-Ok.ensures.updates.0

pub returns-clause-bounded : goal.returns-clause-bounded
returns-clause-bounded c = (held_more c.self.inside.frames c.insert.new.self _ _ _ _ _ _ c.self.invariant c.self.view_is c.get.ensures.value c.requires.apart c.requires.room c.in-Ok.ensures.updates.0 c.in-Ok.ensures.old c.in-Ok.ensures.len).bounded
