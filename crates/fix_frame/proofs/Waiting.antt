-- How long bytes wait.
use Rattle.std.proofs.Common.{◌≡◌, ℕ, ◌+◌, ◌-◌, ◌<◌, ◌≤◌, Bool, true, List, [], ◌++◌, length, drop, codes, refl, sym, ap, ◌∙◌, subst, append_assoc, arith}
use Rattle.std.proofs.lemmas.List.{length-append, length-drop, append-nil}
use Rattle.fix_base.specs.declared.no_match.NoMatch.TheVariants.{NotYet}
use Rattle.fix_base.specs.declared.no_match.NoMatch.{NoMatch}
use Rattle.fix_base.specs.Front.{Begins, IsPartOf, SomeOf, Stops}
use Rattle.fix_base.specs.Frame.{IsText, IsHead}
use Rattle.fix_base.specs.Shape.{IsShape}
use Rattle.fix_base.specs.Stream.{UnreadBytes}
use Rattle.fix_base.proofs.Fronts.{IsPrefixFree, rest_is, begins_stops}
use Rattle.fix_base.proofs.Pieces.{text_free, long_partial}
use Rattle.fix_base.proofs.Places.{head_free, body_stops_2}
use Rattle.fix_base.proofs.Spans.{span_stops_2}
use Rattle.fix_frame.specs.Answer.{Waits}
use Rattle.fix_frame.specs.Given.{WaitsBelow, NextNone}
use Rattle.fix_frame.proofs.Items.{none_ahead}

-- what stands at the front stands there with more bytes too
begins_more : (P : List ℕ → Type 0) (bytes rest more : List ℕ) → Begins P bytes rest → Begins P (bytes ++ more) (rest ++ more)
begins_more P bytes rest more b = record { text = b.text; is = b.is; spelled = ap (λ (w : List ℕ). w ++ more) b.spelled ∙ append_assoc b.text rest more }

begins_long : (P : List ℕ → Type 0) (bytes rest : List ℕ) → Begins P bytes rest → length rest ≤ length bytes
begins_long P bytes rest b = omega (arith, ap length b.spelled, length-append b.text rest)

-- behind the head and `35=` anything goes up to the SOH of the body
pub still_part : (n : ℕ) (bytes behind rest more : List ℕ) → Begins (IsHead n) bytes behind → Begins (IsText (codes "35=")) behind rest → length (bytes ++ more) < length bytes - length rest + (n - 4) → IsPartOf IsShape (bytes ++ more)
still_part n bytes behind rest more head kind few =
    let a = begins_long (IsHead n) bytes behind head in
    let b = begins_long (IsText (codes "35=")) behind rest kind in
    let short : length (rest ++ more) < n - 4 = omega (arith, a, b, few, length-append rest more, length-append bytes more) in
    span_stops_2 n (bytes ++ more) (behind ++ more) NotYet (begins_more (IsHead n) bytes behind more head)
    (body_stops_2 n (behind ++ more) (rest ++ more) NotYet (begins_more (IsText (codes "35=")) behind rest more kind) (long_partial (rest ++ more) (n - 4) short))

-- one head stands at the front
one_head : (n m : ℕ) (bytes behind rest : List ℕ) → Begins (IsHead n) bytes behind → Begins (IsHead m) bytes rest → (n ≡ m) × (behind ≡ rest)
one_head n m bytes behind rest a b =
    let whole : a.text ++ behind ≡ b.text ++ rest = sym a.spelled ∙ b.spelled in
    let texts : a.text ≡ b.text = head_free.same n m a.text b.text behind rest a.is b.is whole in
    (head_free.value n m b.text (subst (IsHead n) texts a.is) b.is, rest_is a.text b.text behind rest whole texts)

some_head_free : IsPrefixFree (λ (_ : Unit {0}). SomeOf IsHead)
some_head_free = record { same = λ _ _ a b u v s t e. head_free.same s.0 t.0 a b u v s.1 t.1 e; value = λ _ _ a s t. refl }

pub no_head : (n : ℕ) (bytes behind : List ℕ) (stop : NoMatch) → Begins (IsHead n) bytes behind → Stops (SomeOf IsHead) bytes stop → ⊥
no_head n bytes behind stop head stops = begins_stops (SomeOf IsHead) some_head_free bytes behind stop (record { text = head.text; is = (n, head.is); spelled = head.spelled }) stops

pub no_kind : (n m : ℕ) (bytes behind found rest : List ℕ) (stop : NoMatch) → Begins (IsHead n) bytes behind → Begins (IsText (codes "35=")) behind rest → Begins (IsHead m) bytes found → Stops (IsText (codes "35=")) found stop → ⊥
no_kind n m bytes behind found rest stop head kind head2 stops =
    let same = one_head n m bytes behind found head head2 in
    begins_stops (IsText (codes "35=")) (text_free (codes "35=")) found rest stop (subst (λ (x : List ℕ). Begins (IsText (codes "35=")) x rest) same.1 kind) stops

-- so the head tells one number of bytes
pub told_same : (n m : ℕ) (bytes behind rest found last : List ℕ) → Begins (IsHead n) bytes behind → Begins (IsText (codes "35=")) behind rest → Begins (IsHead m) bytes found → Begins (IsText (codes "35=")) found last → length bytes - length last + (m - 4) ≡ length bytes - length rest + (n - 4)
told_same n m bytes behind rest found last head kind head2 kind2 =
    let same = one_head n m bytes behind found head head2 in
    let long : length rest ≡ length last = omega (arith, ap length same.1, ap length kind.spelled, ap length kind2.spelled, ap length kind.is, ap length kind2.is, length-append kind.text rest, length-append kind2.text last) in
    omega (arith, same.0, long)

pub waits_never : (a : UnreadBytes) → WaitsBelow a 0
waits_never a = record { waits = λ more lt. omega (arith, lt) }

pub waits_part : (bytes : List ℕ) (n : ℕ) → ((more : List ℕ) → length (bytes ++ more) < n → IsPartOf IsShape (bytes ++ more)) → WaitsBelow (record { may_mark = true; bytes = bytes }) n
waits_part bytes n part = record { waits = λ more lt. none_ahead (bytes ++ more) (part more lt) }

-- the same with a piece more
pub waits_fed : (m : Bool) (bytes piece : List ℕ) (n : ℕ) → WaitsBelow (record { may_mark = m; bytes = bytes }) n → WaitsBelow (record { may_mark = m; bytes = bytes ++ piece }) n
waits_fed m bytes piece n w = record {
  waits = λ more lt.
      subst (λ (x : List ℕ). Waits (record { may_mark = m; bytes = x })) (sym (append_assoc bytes piece more))
      (w.waits (piece ++ more) (subst (λ (x : List ℕ). length x < n) (append_assoc bytes piece more) lt));
}

-- where too few bytes are there, all stays as it is
pub stays : (kept : List ℕ) (place need : ℕ) (m : Bool) → place ≤ length kept → WaitsBelow (record { may_mark = m; bytes = drop place kept }) need → (0 < need → place < 65536) → length kept - place < need
    → NextNone (record { unread = record { may_mark = m; bytes = drop place kept }; kept = length kept }) (record { unread = record { may_mark = m; bytes = drop place kept }; kept = length kept })
stays kept place need m le w small lt =
    let long = length-drop place kept in
    let behind : place < 65536 = small (omega (arith, lt)) in
    let none : Waits (record { may_mark = m; bytes = drop place kept ++ [] }) = w.waits [] (subst (λ (x : List ℕ). length x < need) (sym (append-nil (drop place kept))) (omega (arith, lt, long))) in
    record {
      gives = record {
        skips = record { items = []; take = refl; none = refl };
        end = subst (λ (x : List ℕ). Waits (record { may_mark = m; bytes = x })) (append-nil (drop place kept)) none;
      };
      few = omega (arith, le, behind, long);
    }
