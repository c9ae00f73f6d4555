use Rattle.std.proofs.Common.{refl, sym, ap, is_some}
use Rattle.fix_resend.proofs.WaitingLemmas.{seen_get, seen_remove, held_less, held_room, lowest_below, stands, stands_none}
use Rattle.fix_resend.proofs.stash.Stash.drop_first_below.Goals as goal

pub returns-in_default-clause-none : goal.returns-in_default-clause-none
returns-in_default-clause-none c = λ e. (stands_none c.self.inside.frames _ _ c.self.view_is (λ some. (let found = c.in_default.ensures.variant.1 some in absurd cc)), refl)

pub returns-then-number-n-clause-none : goal.returns-then-number-n-clause-none
returns-then-number-n-clause-none c = λ e. (stands c.self.inside.frames _ _ _ c.self.view_is c.in-Some.ensures.least c.if-number-n.true, refl)

pub overflow_sub-self : goal.overflow_sub-self
overflow_sub-self c = rw c.as_slice.ensures (held_room c.self.inside.frames _ _ _ c.self.invariant (sym c.in-Some-pop_first.ensures.value))

pub invariant_of-self-2 : goal.invariant_of-self-2
invariant_of-self-2 c = rw c.as_slice.ensures (held_less c.self.inside.frames c.pop_first.new.self _ _ _ c.self.invariant (sym c.in-Some-pop_first.ensures.value) c.in-Some-pop_first.ensures.updates.0 c.in-Some-pop_first.ensures.len)

pub returns-clause-dropped : goal.returns-clause-dropped
returns-clause-dropped c = λ e. record {
  number = c.in-Some-pop_first.field-0-0;
  below = lowest_below c.self.inside.frames _ _ _ _ c.in-Some-pop_first.ensures.least c.in-Some.ensures.value c.if-number-n.false;
  waits = ap is_some (sym (seen_get c.self.inside.frames _ _ _ _ c.self.view_is refl (sym c.in-Some-pop_first.ensures.value)));
  rest = seen_remove c.self.inside.frames c.pop_first.new.self _ _ _ c.self.view_is refl c.in-Some-pop_first.ensures.updates.0;
}

pub returns-clause-bounded : goal.returns-clause-bounded
returns-clause-bounded c = (held_less c.self.inside.frames c.pop_first.new.self _ _ _ c.self.invariant (sym c.in-Some-pop_first.ensures.value) c.in-Some-pop_first.ensures.updates.0 c.in-Some-pop_first.ensures.len).bounded
