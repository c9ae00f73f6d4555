-- Where no item stands.
use Rattle.std.proofs.Common.{◌≡◌, ℕ, Bool, true, List, [], ◌∷◌, ◌++◌, length, refl, sym, ap, ◌∙◌, arith}
use Rattle.std.proofs.lemmas.List.{length-append, append-nil}
use Rattle.fix_base.specs.declared.no_match.NoMatch.TheVariants.{NotYet}
use Rattle.fix_base.specs.Front.{IsPartOf}
use Rattle.fix_base.specs.Shape.{IsShape}
use Rattle.fix_base.specs.Stream.{UnreadBytes, Item, Frame, Span, Byte, Takes, HasNoItem}
use Rattle.fix_base.proofs.Fronts.{begins_stops}
use Rattle.fix_base.proofs.Spans.{any_shape_free, shape_long}

-- nothing stands where nothing is
empty_cases : (a b : UnreadBytes) (item : Item) → a.bytes ≡ [] → Takes a item b → ⊥
empty_cases a b (Frame text) e t = omega (arith, ap length (sym e ∙ t.spelled), length-append text b.bytes, shape_long t.is.1.parts text t.is.1.shape)
empty_cases a b (Span text) e t = omega (arith, ap length (sym e ∙ t.spelled), length-append text b.bytes, shape_long t.is.1.0 text t.is.1.1)
empty_cases a b (Byte byte) e t = omega (arith, ap length (sym e ∙ t.spelled), length-append (byte ∷ []) b.bytes)

-- no bytes, no item
pub nothing_ahead : (m : Bool) (bytes : List ℕ) → bytes ≡ [] → HasNoItem (record { may_mark = m; bytes = bytes })
nothing_ahead m bytes e = record { none = λ item b t. empty_cases (record { may_mark = m; bytes = bytes }) b item e t }

-- the bytes are the front of a shape: no item stands there yet
pub none_ahead : (bytes : List ℕ) → IsPartOf IsShape bytes → HasNoItem (record { may_mark = true; bytes = bytes })
none_ahead bytes h = record { none = cases bytes h }
  where
    cases : (bytes : List ℕ) → IsPartOf IsShape bytes → (item : Item) (b : UnreadBytes) → Takes (record { may_mark = true; bytes = bytes }) item b → ⊥
    cases bytes h (Frame text) b t = begins_stops IsShape any_shape_free bytes b.bytes NotYet (record { text = text; is = (t.is.1.parts, t.is.1.shape); spelled = t.spelled }) h
    cases bytes h (Span text) b t = begins_stops IsShape any_shape_free bytes b.bytes NotYet (record { text = text; is = t.is.1; spelled = t.spelled }) h
    cases bytes h (Byte byte) b t = (t.is refl).refutes h.missing [] (record { text = bytes ++ h.missing; is = h.is; spelled = sym (append-nil (bytes ++ h.missing)) })
