-- A message that may be sealed has the fields of a frame.
use Rattle.std.proofs.Common.{◌≡◌, ℕ, ◌≤◌, List, [], ◌∷◌, ◌++◌, length, None, refl, sym, ap, ◌∙◌, subst, append_assoc, arith}
use Rattle.std.specs.Prelude.{codes}
use Rattle.std.specs.Fmt.{decimal}
use Rattle.std.specs.List.{AllByRecursion}
use Rattle.std.proofs.lemmas.List.{length-append}
use Rattle.fix_base.specs.declared.identity.Begin.{Begin}
use Rattle.fix_base.specs.Fields.{Field}
use Rattle.fix_base.specs.Payload.{field}
use Rattle.fix_base.specs.Sealed.{sealed}
use Rattle.fix_base.specs.Frame.{IsBody}
use Rattle.fix_base.specs.Shape.{IsBodyField, IsFrame}
use Rattle.fix_base.specs.Stream.{Frame, ahead_of}
use Rattle.fix_base.proofs.Seals.{AreOfMessage, type_tag, fields_spelled, message_body, sealed_frame}
use Rattle.fix_frame.specs.Answer.{Stands}
use Rattle.fix_frame.specs.Sealable.{IsSealable, IsBehindType, message_text}

-- `35=` and the MsgType
pub type_text : (kind header rest : List ℕ) → message_text kind header rest ≡ codes "35=" ++ kind ++ 1 ∷ [] ++ header ++ rest
type_text kind header rest = simp append_assoc (sym (append_assoc (decimal 35) (61 ∷ []) (kind ++ (1 ∷ (header ++ rest)))) ∙ ap (λ (t : List ℕ). t ++ (kind ++ (1 ∷ (header ++ rest)))) type_tag)

behind_type : (fs : List Field) → AllByRecursion IsBehindType fs → AllByRecursion IsBodyField fs
behind_type [] each = tt
behind_type (f ∷ fs) each = (record { no_begin = each.0.no_begin; no_length = each.0.no_length; no_sum = each.0.no_sum }, behind_type fs each.1)

-- its fields
of_message : (kind header rest : List ℕ) (s : IsSealable kind header rest) → AreOfMessage (field 35 kind ∷ s.fields)
of_message kind header rest s = record {
  first = field 35 kind;
  others = s.fields;
  spelled = refl;
  type = refl;
  long = omega (arith, s.named, ap length (sym (fields_spelled None (message_text kind header rest) (field 35 kind ∷ s.fields) s.are)), ap length (type_text kind header rest), length-append (codes "35=" ++ kind ++ 1 ∷ [] ++ header) rest, length-append (codes "35=" ++ kind ++ 1 ∷ []) header, length-append (codes "35=" ++ kind) (1 ∷ []), length-append (codes "35=") kind);
  each = (record { no_begin = λ e. omega (arith, e); no_length = λ e. omega (arith, e); no_sum = λ e. omega (arith, e) }, behind_type s.fields s.each);
}

-- it is sealed into a frame
pub message_sealed : (begin : Begin) (kind header rest : List ℕ) → IsSealable kind header rest → length (message_text kind header rest) ≤ 1048576 → IsFrame (sealed begin (message_text kind header rest))
message_sealed begin kind header rest s short =
    let m = of_message kind header rest s in
    let is = fields_spelled None (message_text kind header rest) (field 35 kind ∷ s.fields) s.are in
    sealed_frame begin (message_text kind header rest) (subst (λ (t : List ℕ). 5 ≤ length t) (sym is) m.long) short (subst (λ (t : List ℕ). IsBody (length t) t) (sym is) (message_body (field 35 kind ∷ s.fields) m)) (record { list = field 35 kind ∷ s.fields; are = s.are; each = m.each })

-- a frame at the front of a stream is found there
pub frame_stands : (frame more : List ℕ) → IsFrame frame → Stands (ahead_of (frame ++ more) 0) (Frame frame)
frame_stands frame more is = record { is = (refl, is); rest = more; spelled = refl }
