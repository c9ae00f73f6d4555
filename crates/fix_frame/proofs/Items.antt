-- The item at the front of bytes.
use Rattle.std.proofs.Common.{◌≡◌, ℕ, ◌-◌, ◌<◌, Bool, true, IsTrue, List, [], ◌++◌, length, get_or, take, drop, refl, sym, ap, ◌∙◌, subst, arith}
use Rattle.std.proofs.lemmas.List.{length-append, drop_more}
use Rattle.fix_base.specs.Front.{Begins, NeverBegins, IsPartOf}
use Rattle.fix_base.specs.Shape.{Parts, HasShape, IsShape, IsRight}
use Rattle.fix_base.specs.Stream.{Frame, Span, Byte}
use Rattle.fix_base.proofs.Spans.{shape_free, front_is, part_short}
use Rattle.fix_base.proofs.Fronted as fronted
use Rattle.fix_frame.specs.Answer.{Stands, Skipped, Waits}

-- no shape can begin there: one byte
pub byte_ahead : (m : Bool) (bytes : List ℕ) → 0 < length bytes → (IsTrue m → NeverBegins IsShape bytes) → Skipped (record { may_mark = m; bytes = bytes }) 1
byte_ahead m bytes some never = record { item = Byte (get_or bytes 0 0); stands = record { is = never; rest = drop 1 bytes; spelled = drop_more bytes 0 0 some }; no_frame = refl; long = refl }

-- a shape that is no frame: all of it
pub span_ahead : (bytes : List ℕ) (parts : Parts) (rest : List ℕ) → Begins (HasShape parts) bytes rest → (IsRight parts → ⊥) → Skipped (record { may_mark = true; bytes = bytes }) (length bytes - length rest)
span_ahead bytes parts rest b never = record {
  item = Span b.text;
  stands = record { is = (refl, (parts, b.is), λ f. never (subst IsRight (shape_free.value f.parts parts b.text f.shape b.is) f.right)); rest = rest; spelled = b.spelled };
  no_frame = refl;
  long = omega (arith, ap length b.spelled, length-append b.text rest);
}

-- a frame
pub frame_ahead : (bytes : List ℕ) (parts : Parts) (rest : List ℕ) → Begins (HasShape parts) bytes rest → IsRight parts → Stands (record { may_mark = true; bytes = bytes }) (Frame (take (length bytes - length rest) bytes))
frame_ahead bytes parts rest b right =
    let front = front_is bytes b.text rest b.spelled in
    record { is = (refl, record { parts = parts; shape = subst (HasShape parts) (sym front) b.is; right = right }); rest = rest; spelled = b.spelled ∙ ap (λ (w : List ℕ). w ++ rest) (sym front) }

-- the front of a shape
pub none_ahead : (bytes : List ℕ) → IsPartOf IsShape bytes → Waits (record { may_mark = true; bytes = bytes })
none_ahead bytes h = record { none = fronted.none_ahead bytes h; few = part_short bytes h }

-- no bytes
pub nothing_ahead : (m : Bool) (bytes : List ℕ) → bytes ≡ [] → Waits (record { may_mark = m; bytes = bytes })
nothing_ahead m bytes e = record { none = fronted.nothing_ahead m bytes e; few = omega (arith, ap length e) }
