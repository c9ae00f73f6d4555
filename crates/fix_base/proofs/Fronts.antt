-- Texts at the front of bytes, one after another.
use Rattle.std.proofs.Common.{◌≡◌, ℕ, List, [], ◌++◌, length, refl, sym, ap, subst, ◌∙◌, append_assoc, arith, Result, Ok, Err}
use Rattle.std.proofs.lemmas.List.{append_cancel_left, append-nil, length-append}
use Rattle.fix_base.specs.declared.no_match.NoMatch.{NoMatch}
use Rattle.fix_base.specs.declared.no_match.NoMatch.TheVariants.{Never, NotYet}
use Rattle.fix_base.specs.Front.{Begins, Stops, Scans, ScansOf, SomeOf, ThenOf, ◌▹◌}

-- of two texts of P, whatever their values, neither is a front of the other, and one text has one value
pub record IsPrefixFree {Y : Type 0} (P : Y → List ℕ → Type 0) : Type 0 where
  pub same : (y z : Y) (a b u v : List ℕ) → P y a → P z b → a ++ u ≡ b ++ v → a ≡ b
  pub value : (y z : Y) (a : List ℕ) → P y a → P z a → y ≡ z

-- the bytes behind the same front
pub rest_is : (a b u v : List ℕ) → a ++ u ≡ b ++ v → a ≡ b → u ≡ v
rest_is a b u v e same = append_cancel_left b u v (ap (λ (t : List ℕ). t ++ u) (sym same) ∙ e)

-- a text of P and one of Q after it
pub then_begins : {Y : Type 0} (P Q : Y → List ℕ → Type 0) (y : Y) (bytes between rest : List ℕ) → Begins (P y) bytes between → Begins (Q y) between rest → Begins (ThenOf P Q) bytes rest
then_begins P Q y bytes between rest p q = record {
  text = p.text ++ q.text;
  is = record { value = y; first = p.text; second = q.text; is_first = p.is; is_second = q.is; spelled = refl };
  spelled = p.spelled ∙ ap (λ (t : List ℕ). p.text ++ t) q.spelled ∙ sym (append_assoc p.text q.text rest);
}

-- where P stops, P and then Q does, if each text of P can go on as one of Q
pub first_stops : {Y : Type 0} (P Q : Y → List ℕ → Type 0) (bytes : List ℕ) (stop : NoMatch) → ((y : Y) (a : List ℕ) → P y a → (b : List ℕ) × Q y b) → Stops (SomeOf P) bytes stop → Stops (ThenOf P Q) bytes stop
first_stops P Q bytes Never goes_on h = record {
  refutes = λ more rest b.
      h.refutes more (b.is.second ++ rest) (record { text = b.is.first; is = (b.is.value, b.is.is_first); spelled = b.spelled ∙ ap (λ (t : List ℕ). t ++ rest) b.is.spelled ∙ append_assoc b.is.first b.is.second rest });
}
first_stops P Q bytes NotYet goes_on h =
    let next = goes_on h.is.0 (bytes ++ h.missing) h.is.1 in
    record {
      missing = h.missing ++ next.0;
      nonempty = omega (arith, h.nonempty, length-append h.missing next.0);
      is = record { value = h.is.0; first = bytes ++ h.missing; second = next.0; is_first = h.is.1; is_second = next.1; spelled = sym (append_assoc bytes h.missing next.0) };
    }

-- where P stands and Q stops behind it, P and then Q stops
pub second_stops : {Y : Type 0} (P Q : Y → List ℕ → Type 0) (free : IsPrefixFree P) (y : Y) (bytes between : List ℕ) (stop : NoMatch) → Begins (P y) bytes between → Stops (Q y) between stop → Stops (ThenOf P Q) bytes stop
second_stops P Q free y bytes between Never p h = record {
  refutes = λ more rest b.
      let whole : p.text ++ (between ++ more) ≡ b.is.first ++ (b.is.second ++ rest) =
      sym (append_assoc p.text between more) ∙ ap (λ (t : List ℕ). t ++ more) (sym p.spelled) ∙ b.spelled ∙ ap (λ (t : List ℕ). t ++ rest) b.is.spelled ∙ append_assoc b.is.first b.is.second rest in
      let front = free.same y b.is.value p.text b.is.first _ _ p.is b.is.is_first whole in
      let y-is : b.is.value ≡ y = free.value b.is.value y b.is.first b.is.is_first (subst (P y) front p.is) in
      h.refutes more rest (record { text = b.is.second; is = subst (λ z. Q z b.is.second) y-is b.is.is_second; spelled = rest_is p.text b.is.first _ _ whole front });
}
second_stops P Q free y bytes between NotYet p h = record {
  missing = h.missing;
  nonempty = h.nonempty;
  is = record { value = y; first = p.text; second = between ++ h.missing; is_first = p.is; is_second = h.is; spelled = ap (λ (t : List ℕ). t ++ h.missing) p.spelled ∙ append_assoc p.text between h.missing };
}

-- P and then Q is prefix-free, each value of P's giving one of the whole
pub then_free : {Y : Type 0} (P Q : Y → List ℕ → Type 0) → IsPrefixFree P → ((y : Y) → IsPrefixFree (λ (_ : Unit {0}). Q y)) → IsPrefixFree (λ (_ : Unit {0}). ThenOf P Q)
then_free P Q p q = record {
  same = λ _ _ a b u v s t e.
      let whole : s.first ++ (s.second ++ u) ≡ t.first ++ (t.second ++ v) =
      sym (append_assoc s.first s.second u) ∙ ap (λ (w : List ℕ). w ++ u) (sym s.spelled) ∙ e ∙ ap (λ (w : List ℕ). w ++ v) t.spelled ∙ append_assoc t.first t.second v in
      let front = p.same s.value t.value s.first t.first _ _ s.is_first t.is_first whole in
      let value : s.value ≡ t.value = p.value s.value t.value t.first (subst (P s.value) front s.is_first) t.is_first in
      let behind = (q t.value).same tt tt s.second t.second u v (subst (λ z. Q z s.second) value s.is_second) t.is_second (rest_is s.first t.first _ _ whole front) in
      s.spelled ∙ ap (λ (w : List ℕ). w ++ s.second) front ∙ ap (λ (w : List ℕ). t.first ++ w) behind ∙ sym t.spelled;
  value = λ _ _ a s t. refl;
}

-- where a text begins, no front of it is missing bytes
pub begins_stops : (P : List ℕ → Type 0) → IsPrefixFree (λ (_ : Unit {0}). P) → (bytes rest : List ℕ) (stop : NoMatch) → Begins P bytes rest → Stops P bytes stop → ⊥
begins_stops P free bytes rest Never b h = h.refutes [] rest (record { text = b.text; is = b.is; spelled = append-nil bytes ∙ b.spelled })
begins_stops P free bytes rest NotYet b h =
    let whole : b.text ++ (rest ++ h.missing) ≡ (bytes ++ h.missing) ++ [] =
    sym (append_assoc b.text rest h.missing) ∙ ap (λ (t : List ℕ). t ++ h.missing) (sym b.spelled) ∙ sym (append-nil (bytes ++ h.missing)) in
    let same : b.text ≡ bytes ++ h.missing = free.same tt tt b.text (bytes ++ h.missing) _ _ b.is h.is whole in
    omega (arith, h.nonempty, ap length same, ap length b.spelled, length-append bytes h.missing, length-append b.text rest)

-- two ways to say the same texts
pub stops_same : (P Q : List ℕ → Type 0) (bytes : List ℕ) (stop : NoMatch) → ((text : List ℕ) → P text → Q text) → ((text : List ℕ) → Q text → P text) → Stops P bytes stop → Stops Q bytes stop
stops_same P Q bytes Never to back h = record { refutes = λ more rest b. h.refutes more rest (record { text = b.text; is = back b.text b.is; spelled = b.spelled }) }
stops_same P Q bytes NotYet to back h = record { missing = h.missing; nonempty = h.nonempty; is = to (bytes ++ h.missing) h.is }

pub stops_some : (P : List ℕ → Type 0) (bytes : List ℕ) (stop : NoMatch) → Stops P bytes stop → Stops (SomeOf (λ (_ : Unit {0}). P)) bytes stop
stops_some P bytes stop h = stops_same P (SomeOf (λ (_ : Unit {0}). P)) bytes stop (λ t p. (tt, p)) (λ t p. p.1) h

-- ---- the same for P with no value, and for Q's value as that of the whole

pub both_begin : (P Q : List ℕ → Type 0) (bytes between rest : List ℕ) → Begins P bytes between → Begins Q between rest → Begins (P ▹ Q) bytes rest
both_begin P Q bytes between rest p q = then_begins (λ (_ : Unit {0}). P) (λ _. Q) tt bytes between rest p q

-- P ▹ Q y for some y is P, and then Q for some y
some_out : {Y : Type 0} (P : List ℕ → Type 0) (Q : Y → List ℕ → Type 0) (bytes : List ℕ) (stop : NoMatch) → Stops (P ▹ SomeOf Q) bytes stop → Stops (SomeOf (λ y. P ▹ Q y)) bytes stop
some_out P Q bytes stop h = stops_same (P ▹ SomeOf Q) (SomeOf (λ y. P ▹ Q y)) bytes stop
    (λ t s. (s.is_second.0, record { value = tt; first = s.first; second = s.second; is_first = s.is_first; is_second = s.is_second.1; spelled = s.spelled }))
    (λ t s. record { value = tt; first = s.1.first; second = s.1.second; is_first = s.1.is_first; is_second = (s.0, s.1.is_second); spelled = s.1.spelled }) h

pub stops_first : (P Q : List ℕ → Type 0) (bytes : List ℕ) (stop : NoMatch) → (b : List ℕ) × Q b → Stops P bytes stop → Stops (P ▹ Q) bytes stop
stops_first P Q bytes stop goes_on h = first_stops (λ (_ : Unit {0}). P) (λ _. Q) bytes stop (λ _ _ _. goes_on) (stops_some P bytes stop h)

pub stops_second : (P Q : List ℕ → Type 0) (free : IsPrefixFree (λ (_ : Unit {0}). P)) (bytes between : List ℕ) (stop : NoMatch) → Begins P bytes between → Stops Q between stop → Stops (P ▹ Q) bytes stop
stops_second P Q free bytes between stop p h = second_stops (λ (_ : Unit {0}). P) (λ _. Q) free tt bytes between stop p h

pub stops_first_of : {Y : Type 0} (P : List ℕ → Type 0) (Q : Y → List ℕ → Type 0) (bytes : List ℕ) (stop : NoMatch) → (b : List ℕ) × SomeOf Q b → Stops P bytes stop → Stops (SomeOf (λ y. P ▹ Q y)) bytes stop
stops_first_of P Q bytes stop goes_on h = some_out P Q bytes stop (stops_first P (SomeOf Q) bytes stop goes_on h)

pub stops_second_of : {Y : Type 0} (P : List ℕ → Type 0) (Q : Y → List ℕ → Type 0) (free : IsPrefixFree (λ (_ : Unit {0}). P)) (bytes between : List ℕ) (stop : NoMatch) → Begins P bytes between → Stops (SomeOf Q) between stop → Stops (SomeOf (λ y. P ▹ Q y)) bytes stop
stops_second_of P Q free bytes between stop p h = some_out P Q bytes stop (stops_second P (SomeOf Q) free bytes between stop p h)

-- P ▹ Q y has the value of Q
pub both_free : {Y : Type 0} (P : List ℕ → Type 0) (Q : Y → List ℕ → Type 0) → IsPrefixFree (λ (_ : Unit {0}). P) → IsPrefixFree Q → IsPrefixFree (λ y. P ▹ Q y)
both_free P Q p q = record {
  same = λ y z a b u v s t e.
      let whole : s.first ++ (s.second ++ u) ≡ t.first ++ (t.second ++ v) =
      sym (append_assoc s.first s.second u) ∙ ap (λ (w : List ℕ). w ++ u) (sym s.spelled) ∙ e ∙ ap (λ (w : List ℕ). w ++ v) t.spelled ∙ append_assoc t.first t.second v in
      let front = p.same tt tt s.first t.first _ _ s.is_first t.is_first whole in
      let behind = q.same y z s.second t.second u v s.is_second t.is_second (rest_is s.first t.first _ _ whole front) in
      s.spelled ∙ ap (λ (w : List ℕ). w ++ s.second) front ∙ ap (λ (w : List ℕ). t.first ++ w) behind ∙ sym t.spelled;
  value = λ y z a s t.
      let whole : s.first ++ s.second ≡ t.first ++ t.second = sym s.spelled ∙ t.spelled in
      let front = p.same tt tt s.first t.first _ _ s.is_first t.is_first whole in
      let behind = rest_is s.first t.first _ _ whole front in
      q.value y z t.second (subst (Q y) behind s.is_second) t.is_second;
}

pub both_inhabited : {Y : Type 0} (P : List ℕ → Type 0) (Q : Y → List ℕ → Type 0) (a : List ℕ) → P a → (b : List ℕ) × SomeOf Q b → (b : List ℕ) × SomeOf (λ y. P ▹ Q y) b
both_inhabited P Q a p q = (a ++ q.0, (q.1.0, record { value = tt; first = a; second = q.0; is_first = p; is_second = q.1.1; spelled = refl }))

-- ---- a call behind P, returned as it is

pub reads_second : {X : Type 0} (view : X → List ℕ) (P Q : List ℕ → Type 0) (free : IsPrefixFree (λ (_ : Unit {0}). P)) (bytes between : List ℕ) (r : Result X NoMatch) → Begins P bytes between → Scans view Q between r → Scans view (P ▹ Q) bytes r
reads_second view P Q free bytes between (Ok x) p h = both_begin P Q bytes between (view x) p h
reads_second view P Q free bytes between (Err stop) p h = stops_second P Q free bytes between stop p h

pub reads_second_of : {X Y : Type 0} (value : X → Y) (view : X → List ℕ) (P : List ℕ → Type 0) (Q : Y → List ℕ → Type 0) (free : IsPrefixFree (λ (_ : Unit {0}). P)) (bytes between : List ℕ) (r : Result X NoMatch) → Begins P bytes between → ScansOf value view Q between r → ScansOf value view (λ y. P ▹ Q y) bytes r
reads_second_of value view P Q free bytes between (Ok x) p h = both_begin P (Q (value x)) bytes between (view x) p h
reads_second_of value view P Q free bytes between (Err stop) p h = stops_second_of P Q free bytes between stop p h
