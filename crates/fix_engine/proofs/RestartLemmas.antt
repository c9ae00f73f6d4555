-- A process that starts again from what is stored.
use Rattle.std.proofs.Common.{◌≡◌, inl, inr, ℕ, ◌==◌, if◌then◌else◌, Bool, true, false, List, [], ◌∷◌, ◌++◌, length, length-append, Option, Some, None, refl, sym, ap, ◌∙◌, subst, arith}
use Rattle.std.proofs.lemmas.List.{append-nil}
use Rattle.fix_base.specs.declared.identity.Identity.{Identity}
use Rattle.fix_base.specs.declared.act.Act.TheVariants as act
use Rattle.fix_base.specs.declared.entry.Entry.{Entry}
use Rattle.fix_base.specs.declared.entry.Record.{Record}
use Rattle.fix_base.specs.declared.entry.Record.TheVariants.{Push, Expect, Many, Withhold, Reset, ResetAsk, Confirm}
use Rattle.fix_base.specs.declared.entry.Stored.{Stored}
use Rattle.fix_base.specs.End.{End, folded}
use Rattle.fix_base.specs.EndStep as steps
use Rattle.fix_base.specs.EndStep.{Acceptor, EndState, EndRun, handled_with, offered_with}
use Rattle.fix_outside.specs.Outside.{IsStoredOf}
use Rattle.fix_engine.specs.Lawful.{IsCertain, IsStoredOrInDoubt}
use Rattle.fix_engine.specs.Run.{state_of}
use Rattle.fix_engine.specs.Restart.{HasNumbersOf, StartsAt, Restarts, RestartsAt}

no_items : {A : Type 0} (xs : List A) → length xs ≡ 0 → xs ≡ []
no_items [] h = refl
no_items (x ∷ xs) h = absurd (omega (arith, h))

-- several entries add to the number of entries, where they are any
same_many : (stored : Stored) (e : End) (pushes : List Entry) (k : ℕ) (none : Bool) → IsStoredOf stored e → IsStoredOf stored (if none then record e { out = e.out ++ pushes } else record (record e { out = e.out ++ pushes }) { stored = k }) → e ≡ (if none then record e { out = e.out ++ pushes } else record (record e { out = e.out ++ pushes }) { stored = k })
same_many stored e pushes k true a b =
    let none : pushes ≡ [] = no_items pushes (omega (arith, a.last, b.last, length-append e.out pushes)) in
    let out : e.out ≡ e.out ++ pushes = sym (ap (λ w. e.out ++ w) none ∙ append-nil e.out) in
    λ i. record { out = out i; stored = e.stored; since = e.since; withheld = e.withheld; asked = e.asked }
same_many stored e pushes k false a b =
    let none : pushes ≡ [] = no_items pushes (omega (arith, a.last, b.last, length-append e.out pushes)) in
    let out : e.out ≡ e.out ++ pushes = sym (ap (λ w. e.out ++ w) none ∙ append-nil e.out) in
    let same : e.stored ≡ k = sym a.expected ∙ b.expected in
    λ i. record { out = out i; stored = same i; since = e.since; withheld = e.withheld; asked = e.asked }

-- an end and the one with a further record have other numbers, or are the same, where nothing is withheld
same_numbers : (stored : Stored) (e : End) (r : Record) → e.withheld ≡ [] → ((n : ℕ) → r ≡ Withhold n → ⊥) → IsStoredOf stored e → IsStoredOf stored (folded e r) → e ≡ folded e r
same_numbers stored e (Push entry) w never a b = absurd (omega (arith, a.last, b.last, length-append e.out (entry ∷ [])))
same_numbers stored e (Expect number) w never a b =
    let same : e.stored ≡ number = sym a.expected ∙ b.expected in
    λ i. record { out = e.out; stored = same i; since = e.since; withheld = e.withheld; asked = e.asked }
same_numbers stored e (Many pushes k) w never a b = same_many stored e pushes k (k == 0) a b
same_numbers stored e (Withhold n) w never a b = absurd (never n refl)
same_numbers stored e (Reset time) w never a b =
    let out : e.out ≡ [] = no_items e.out (sym a.last ∙ b.last) in
    let one : e.stored ≡ 1 = sym a.expected ∙ b.expected in
    let when : e.since ≡ Some time = sym a.since ∙ b.since in
    λ i. record { out = out i; stored = one i; since = when i; withheld = w i; asked = e.asked }
same_numbers stored e (ResetAsk time) w never a b =
    let out : e.out ≡ [] = no_items e.out (sym a.last ∙ b.last) in
    let one : e.stored ≡ 1 = sym a.expected ∙ b.expected in
    let when : e.since ≡ Some time = sym a.since ∙ b.since in
    let asked : e.asked ≡ true = sym a.asked ∙ b.asked in
    λ i. record { out = out i; stored = one i; since = when i; withheld = w i; asked = asked i }
same_numbers stored e Confirm w never a b =
    let asked : e.asked ≡ false = sym a.asked ∙ b.asked in
    λ i. record { out = e.out; stored = e.stored; since = e.since; withheld = e.withheld; asked = asked i }

some_end : (a b : End) → Some a ≡ Some b → a ≡ b
some_end a b e = cc

-- of the end and the one with a further record, those with the same numbers are the same
one_of_two : (stored : Stored) (e x : End) (r : Record) → e.withheld ≡ [] → ((n : ℕ) → r ≡ Withhold n → ⊥) → IsStoredOrInDoubt (Some r) e (Some x) → IsStoredOf stored x → IsStoredOf stored e → x ≡ e
one_of_two stored e x r w never (inl is) numbers first = some_end x e is
one_of_two stored e x r w never (inr is) numbers first =
    let other : x ≡ folded e r = some_end x (folded e r) is in
    other ∙ sym (same_numbers stored e r w never first (subst (IsStoredOf stored) other numbers))

other_of_two : (stored : Stored) (e x : End) (r : Record) → e.withheld ≡ [] → ((n : ℕ) → r ≡ Withhold n → ⊥) → IsStoredOrInDoubt (Some r) e (Some x) → IsStoredOf stored x → IsStoredOf stored (folded e r) → x ≡ folded e r
other_of_two stored e x r w never (inr is) numbers second = some_end x (folded e r) is
other_of_two stored e x r w never (inl is) numbers second =
    let first : x ≡ e = some_end x e is in
    first ∙ same_numbers stored e r w never (subst (IsStoredOf stored) first numbers) second

-- the end behind the stop
abbrev again : EndState → EndState
again s = record s { expected = s.end.stored; connection = None }

stops_at : (id : Identity) (s : EndState) → s.doubt ≡ None → EndRun id s (act.Stop ∷ []) (again s)
stops_at id s none = steps.step (record { certain = none; row = steps.stopped }) steps.stop

is_certain : (stored : Stored) (s : EndState) → s.doubt ≡ None → s.role ≡ Acceptor → IsStoredOf stored s.end → IsCertain (state_of stored) (again s)
is_certain stored s none role h = record { doubt = none; numbers = record { expected = sym h.expected; stored = sym h.expected; out = sym h.last; role = role } }

-- the record in doubt isn't kept, or is
abbrev without : EndState → EndState
without s = record s { expected = s.end.stored; doubt = None }

abbrev with_it : EndState → Record → EndState
with_it s r = record s { end = folded s.end r; expected = (folded s.end r).stored; handled = handled_with s.handled s.beside r; doubt = None; offered = offered_with s.offered r }

-- the doubt of a state, where it is told
not_withheld : (start : EndState) (r : Record) → start.doubt ≡ Some r → ((n : ℕ) → start.doubt ≡ Some (Withhold n) → ⊥) → (n : ℕ) → r ≡ Withhold n → ⊥
not_withheld start r is never n e = never n (is ∙ ap Some e)

restarts_by : (id : Identity) (stored : Stored) (start : EndState) (o : Option Record) → start.role ≡ Acceptor → start.doubt ≡ o → HasNumbersOf o start.end stored → Restarts id stored start
restarts_by id stored start None role is numbers = record {
  to = again start;
  run = stops_at id start is;
  certain = is_certain stored start is role numbers;
  held = λ tell e h k. some_end e start.end (subst (λ o. IsStoredOrInDoubt o start.end (Some e)) is h);
}
restarts_by id stored start (Some r) role is (inl numbers) = record {
  to = again (without start);
  run = steps.move (steps.settles_without r is) (stops_at id (without start) refl);
  certain = is_certain stored (without start) refl role numbers;
  held = λ tell e h k. one_of_two stored start.end e r tell.none (not_withheld start r is tell.not_in_doubt) (subst (λ o. IsStoredOrInDoubt o start.end (Some e)) is h) k numbers;
}
restarts_by id stored start (Some r) role is (inr numbers) = record {
  to = again (with_it start r);
  run = steps.move (steps.settles_with r is) (stops_at id (with_it start r) refl);
  certain = is_certain stored (with_it start r) refl role numbers;
  held = λ tell e h k. other_of_two stored start.end e r tell.none (not_withheld start r is tell.not_in_doubt) (subst (λ o. IsStoredOrInDoubt o start.end (Some e)) is h) k numbers;
}

-- over a store that holds this end
at_by : (id : Identity) (stored : Stored) (start : EndState) (e : End) (o : Option Record) → start.role ≡ Acceptor → start.doubt ≡ o → IsStoredOrInDoubt o start.end (Some e) → IsStoredOf stored e → RestartsAt id stored e start
at_by id stored start e None role is held numbers =
    let same : e ≡ start.end = some_end e start.end held in
    record {
      to = again start;
      run = stops_at id start is;
      certain = is_certain stored start is role (subst (IsStoredOf stored) same numbers);
      is = same;
    }
at_by id stored start e (Some r) role is (inl held) numbers =
    let same : e ≡ start.end = some_end e start.end held in
    record {
      to = again (without start);
      run = steps.move (steps.settles_without r is) (stops_at id (without start) refl);
      certain = is_certain stored (without start) refl role (subst (IsStoredOf stored) same numbers);
      is = same;
    }
at_by id stored start e (Some r) role is (inr held) numbers =
    let same : e ≡ folded start.end r = some_end e (folded start.end r) held in
    record {
      to = again (with_it start r);
      run = steps.move (steps.settles_with r is) (stops_at id (with_it start r) refl);
      certain = is_certain stored (with_it start r) refl role (subst (IsStoredOf stored) same numbers);
      is = same;
    }

pub restarts_at : (id : Identity) (stored : Stored) (start : EndState) (e : End) → start.role ≡ Acceptor → IsStoredOrInDoubt start.doubt start.end (Some e) → IsStoredOf stored e → RestartsAt id stored e start
restarts_at id stored start e role held numbers = at_by id stored start e start.doubt role refl held numbers

pub restarts : (id : Identity) (stored : Stored) (start : EndState) → StartsAt stored start → Restarts id stored start
restarts id stored start h = restarts_by id stored start start.doubt h.role refl h.numbers

-- what a store holds has the numbers that it tells
pub held_starts : (stored : Stored) (start : EndState) (e : End) → start.role ≡ Acceptor → IsStoredOrInDoubt start.doubt start.end (Some e) → IsStoredOf stored e → StartsAt stored start
held_starts stored start e role h numbers = record { role = role; numbers = by_doubt start.doubt h }
  where
    by_doubt : (o : Option Record) → IsStoredOrInDoubt o start.end (Some e) → HasNumbersOf o start.end stored
    by_doubt None is = subst (IsStoredOf stored) (some_end e start.end is) numbers
    by_doubt (Some r) (inl is) = inl (subst (IsStoredOf stored) (some_end e start.end is) numbers)
    by_doubt (Some r) (inr is) = inr (subst (IsStoredOf stored) (some_end e (folded start.end r) is) numbers)
