use Rattle.fix_resend.proofs.WaitingLemmas.{seen_get, seen_remove, held_less, held_room}
use Rattle.fix_resend.proofs.stash.Stash.take.Goals as goal

pub returns-in_default-clause-frame : goal.returns-in_default-clause-frame
returns-in_default-clause-frame c = seen_get c.self.inside.frames _ _ _ _ c.self.view_is c.get.ensures.value c.in_default.ensures.value

pub returns-in_default-clause-rest : goal.returns-in_default-clause-rest
returns-in_default-clause-rest c = seen_remove c.self.inside.frames c.remove.new.self _ _ _ c.self.view_is c.get.ensures.value c.in_default.ensures.updates.0

pub overflow_sub-self : goal.overflow_sub-self
overflow_sub-self c = rw c.as_slice.ensures (held_room c.self.inside.frames _ _ _ c.self.invariant c.in-Some.ensures.value)

pub invariant_of-self-2 : goal.invariant_of-self-2
invariant_of-self-2 c = rw c.as_slice.ensures (held_less c.self.inside.frames c.remove.new.self _ _ _ c.self.invariant c.in-Some.ensures.value c.in-Some.ensures.updates.0 c.in-Some.ensures.len)

pub returns-clause-frame : goal.returns-clause-frame
returns-clause-frame c = seen_get c.self.inside.frames _ _ _ _ c.self.view_is c.get.ensures.value c.in-Some.ensures.value

pub returns-clause-rest : goal.returns-clause-rest
returns-clause-rest c = seen_remove c.self.inside.frames c.remove.new.self _ _ _ c.self.view_is c.get.ensures.value c.in-Some.ensures.updates.0

pub returns-clause-bounded : goal.returns-clause-bounded
returns-clause-bounded c = (held_less c.self.inside.frames c.remove.new.self _ _ _ c.self.invariant c.in-Some.ensures.value c.in-Some.ensures.updates.0 c.in-Some.ensures.len).bounded
