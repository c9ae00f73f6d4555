-- A frame has a list of fields, and the body of its message begins with its MsgType (35).
use Rattle.std.proofs.Common.{◌≡◌, ℕ, List, [], ◌∷◌, ◌++◌, codes, Some, if◌then◌else◌, sym, ap, subst, ◌∙◌}
use Rattle.std.proofs.Common.{append_assoc}
use Rattle.std.specs.Fmt.{decimal}
use Rattle.fix_base.specs.Lists.{IsPrefixOf}
use Rattle.fix_base.specs.Fields.{Field}
use Rattle.fix_base.specs.Shape.{IsFrame}
use Rattle.fix_base.specs.Says.{value_of, HasFields, field_text, body_of}
use Rattle.fix_base.specs.Tags.{is_session_tag}
use Rattle.fix_fields.proofs.EnvelopeLemmas.{type_first, type_tag, value_here}

abbrev pub fields_in : {text : List ℕ} → IsFrame text → List Field
fields_in f = f.right.fields.list

pub frame_has : {text : List ℕ} (f : IsFrame text) → HasFields text (fields_in f)
frame_has f = record { parts = f.parts; shape = f.shape; are = f.right.fields.are }

-- a field 35, by its text
shifted : (d kind more : List ℕ) → d ++ 61 ∷ [] ≡ codes "35=" →
    (d ++ 61 ∷ kind ++ 1 ∷ []) ++ more ≡ (codes "35=" ++ kind ++ 1 ∷ []) ++ more
shifted d kind more e = apart d kind more ∙ ap (λ (t : List ℕ). (t ++ kind ++ 1 ∷ []) ++ more) e
  where
    apart : (d kind more : List ℕ) → (d ++ 61 ∷ kind ++ 1 ∷ []) ++ more ≡ ((d ++ 61 ∷ []) ++ kind ++ 1 ∷ []) ++ more
    apart d kind more = simp append_assoc

first_text : (f : Field) (kind more : List ℕ) → f.tag ≡ 35 → f.value ≡ kind →
    field_text f ++ more ≡ (codes "35=" ++ kind ++ 1 ∷ []) ++ more
first_text f kind more tag same =
    ap (λ (v : List ℕ). (decimal f.tag ++ 61 ∷ v ++ 1 ∷ []) ++ more) same ∙
    shifted (decimal f.tag) kind more (ap (λ n. decimal n ++ 61 ∷ []) tag ∙ sym type_tag)

-- the engine doesn't write MsgType (35) itself
body_head : (f : Field) (fs : List Field) → f.tag ≡ 35 → body_of (f ∷ fs) ≡ field_text f ++ body_of fs
body_head f fs tag = ap (λ n. if is_session_tag n then body_of fs else field_text f ++ body_of fs) tag

some_same : (x y : List ℕ) → Some x ≡ Some y → x ≡ y
some_same x y e = cc

pub body_kind : (frame kind : List ℕ) (fs : List Field) → HasFields frame fs → value_of 35 fs ≡ Some kind →
    IsPrefixOf (codes "35=" ++ kind ++ 1 ∷ []) (body_of fs)
body_kind frame kind fs has type =
    let t = type_first has.shape.len has.parts.body has.shape.is_body fs has.are in
    let value = some_same t.0.value kind (sym (ap (value_of 35) t.2 ∙ value_here 35 t.0 t.1 t.3) ∙ type) in
    subst (λ (xs : List Field). IsPrefixOf (codes "35=" ++ kind ++ 1 ∷ []) (body_of xs)) (sym t.2)
    (record { rest = body_of t.1; is = body_head t.0 t.1 t.3 ∙ first_text t.0 kind (body_of t.1) t.3 value })
