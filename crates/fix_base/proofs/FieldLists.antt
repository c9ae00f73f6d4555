-- A list of fields has one reading.
use Rattle.std.proofs.Common.{◌≡◌, ◌≢◌, ℕ, Bool, true, false, nat_eq, List, [], ◌∷◌, ◌++◌, length, get_or, take, Option, Some, None, refl, sym, ap, subst, ◌∙◌, append_assoc, arith}
use Rattle.std.specs.Prelude.{MatchBool}
use Rattle.std.specs.List.{AllByRecursion}
use Rattle.std.specs.Fmt.{decimal}
use Rattle.std.proofs.lemmas.List.{take_at, length-append, same_from_push, get_or_at}
use Rattle.fix_base.specs.Front.{Begins}
use Rattle.fix_base.specs.Frame.{HasNoSoh, IsLine}
use Rattle.fix_base.specs.Fields.{Field, IsTag, IsValue, IsField, FieldsAfter, data_after}
use Rattle.fix_base.specs.Shape.{IsBodyField, HasFieldsAfter}
use Rattle.fix_base.proofs.Fronts.{rest_is}
use Rattle.fix_base.proofs.Pieces.{line_free}
use Rattle.fix_base.proofs.TagTexts.{tag_same, tag_rest}

-- the tag of a field
pub field_tag : (due : Option (ℕ × ℕ)) (f : Field) (bytes rest : List ℕ) → Begins (IsField due f) bytes rest → Begins (IsTag f.tag) bytes (f.value ++ 1 ∷ rest)
field_tag due f bytes rest b = record {
  text = decimal f.tag ++ 61 ∷ [];
  is = record { first = b.is.first; last = b.is.last; spelled = refl };
  spelled = b.spelled ∙ ap (λ (t : List ℕ). t ++ rest) b.is.spelled ∙ simp append_assoc;
}

-- no tag is there
pub no_field_tag : (due : Option (ℕ × ℕ)) (bytes : List ℕ) → ((n : ℕ) (rest : List ℕ) → Begins (IsTag n) bytes rest → ⊥) → (f : Field) (rest : List ℕ) → Begins (IsField due f) bytes rest → ⊥
no_field_tag due bytes never f rest b = never f.tag (f.value ++ 1 ∷ rest) (field_tag due f bytes rest b)

-- no value of the tag is there
pub no_field_value : (due : Option (ℕ × ℕ)) (tag : ℕ) (bytes behind : List ℕ) → Begins (IsTag tag) bytes behind → ((value rest : List ℕ) → IsValue due (record { tag = tag; value = value }) → behind ≡ value ++ 1 ∷ rest → ⊥)
    → (f : Field) (rest : List ℕ) → Begins (IsField due f) bytes rest → ⊥
no_field_value due tag bytes behind t never f rest b =
    let u = field_tag due f bytes rest b in
    let same : f.tag ≡ tag = tag_same f.tag tag bytes (f.value ++ 1 ∷ rest) behind u t in
    never f.value rest (subst (λ n. IsValue due (record { tag = n; value = f.value })) same b.is.value) (sym (tag_rest f.tag tag bytes (f.value ++ 1 ∷ rest) behind u t))

-- a plain value has one end
plain_same : (v w x y : List ℕ) → HasNoSoh v → HasNoSoh w → v ++ 1 ∷ x ≡ w ++ 1 ∷ y → v ≡ w
plain_same v w x y p q e =
    let any : (t : List ℕ) → HasNoSoh t → IsLine (λ _. Unit {0}) (t ++ 1 ∷ []) = λ t h. record { value = t; no_soh = h; is = tt; spelled = refl } in
    let whole : (v ++ 1 ∷ []) ++ x ≡ (w ++ 1 ∷ []) ++ y = append_assoc v (1 ∷ []) x ∙ e ∙ sym (append_assoc w (1 ∷ []) y) in
    let both : v ++ 1 ∷ [] ≡ w ++ 1 ∷ [] = (line_free (λ (_ : Unit {0}) (_ : List ℕ). Unit {0}) (λ _ _ _ _ _. refl)).same tt tt (v ++ 1 ∷ []) (w ++ 1 ∷ []) x y (any v p) (any w q) whole in
    (same_from_push v w 1 1 both).0

sized_same : (v w x y : List ℕ) (n : ℕ) → length v ≡ n → length w ≡ n → v ++ 1 ∷ x ≡ w ++ 1 ∷ y → v ≡ w
sized_same v w x y n p q e = sym (take_at v (1 ∷ x) n p) ∙ ap (take n) e ∙ take_at w (1 ∷ y) n q

choice_same : (b : Bool) (v w x y : List ℕ) (n : ℕ) → MatchBool b (length v ≡ n) (HasNoSoh v) → MatchBool b (length w ≡ n) (HasNoSoh w) → v ++ 1 ∷ x ≡ w ++ 1 ∷ y → v ≡ w
choice_same true v w x y n p q e = sized_same v w x y n p q e
choice_same false v w x y n p q e = plain_same v w x y p q e

value_same : (due : Option (ℕ × ℕ)) (tag : ℕ) (v w x y : List ℕ) → IsValue due (record { tag = tag; value = v }) → IsValue due (record { tag = tag; value = w }) → v ++ 1 ∷ x ≡ w ++ 1 ∷ y → v ≡ w
value_same None tag v w x y p q e = plain_same v w x y p q e
value_same (Some d) tag v w x y p q e = choice_same (nat_eq tag d.0) v w x y d.1 p q e

-- the field at a front is the one field there
pub field_same : (due : Option (ℕ × ℕ)) (f g : Field) (bytes u v : List ℕ) → Begins (IsField due f) bytes u → Begins (IsField due g) bytes v → (f ≡ g) × (u ≡ v)
field_same due f g bytes u v p q =
    let s = field_tag due f bytes u p in
    let t = field_tag due g bytes v q in
    let tag : f.tag ≡ g.tag = tag_same f.tag g.tag bytes _ _ s t in
    let rest : f.value ++ 1 ∷ u ≡ g.value ++ 1 ∷ v = tag_rest f.tag g.tag bytes _ _ s t in
    let value : f.value ≡ g.value = value_same due g.tag f.value g.value u v (subst (λ n. IsValue due (record { tag = n; value = f.value })) tag p.is.value) q.is.value rest in
    let same : f ≡ g = ap (λ (n : ℕ). record { tag = n; value = f.value }) tag ∙ ap (λ (w : List ℕ). record { tag = g.tag; value = w }) value in
    (same, rest_is (f.value ++ 1 ∷ []) (g.value ++ 1 ∷ []) u v (append_assoc f.value (1 ∷ []) u ∙ rest ∙ sym (append_assoc g.value (1 ∷ []) v)) (ap (λ (w : List ℕ). w ++ 1 ∷ []) value))

-- ---- one step of a loop over the fields

pub fields_to : (due : Option (ℕ × ℕ)) (f : Field) (bytes rest : List ℕ) → Begins (IsField due f) bytes rest → IsBodyField f → HasFieldsAfter (data_after f) rest → HasFieldsAfter due bytes
fields_to due f bytes rest b each h = record { list = f ∷ h.list; are = (b.text, rest, b.is, b.spelled, h.are); each = (each, h.each) }

-- what the fields are, read from the front
pub record Fronted (due : Option (ℕ × ℕ)) (f : Field) (rest : List ℕ) : Type 0 where
  pub behind : HasFieldsAfter (data_after f) rest
  pub each : IsBodyField f

fields_cases : (due : Option (ℕ × ℕ)) (f : Field) (bytes rest : List ℕ) (fs : List Field) → Begins (IsField due f) bytes rest → bytes ≢ [] → FieldsAfter due bytes fs → AllByRecursion IsBodyField fs → Fronted due f rest
fields_cases due f bytes rest [] b some are each = absurd (some are)
fields_cases due f bytes rest (g ∷ fs) b some are each =
    let first : Begins (IsField due g) bytes are.1 = record { text = are.0; is = are.2; spelled = are.3 } in
    let same = field_same due g f bytes are.1 rest first b in
    record {
      behind = record { list = fs; are = subst (λ (h : Field). FieldsAfter (data_after h) rest fs) same.0 (subst (λ (r : List ℕ). FieldsAfter (data_after g) r fs) same.1 are.4); each = each.1 };
      each = subst IsBodyField same.0 each.0;
    }

pub fields_from : (due : Option (ℕ × ℕ)) (f : Field) (bytes rest : List ℕ) → Begins (IsField due f) bytes rest → bytes ≢ [] → HasFieldsAfter due bytes → Fronted due f rest
fields_from due f bytes rest b some h = fields_cases due f bytes rest h.list b some h.are h.each

none_cases : (due : Option (ℕ × ℕ)) (bytes : List ℕ) (fs : List Field) → ((f : Field) (rest : List ℕ) → Begins (IsField due f) bytes rest → ⊥) → bytes ≢ [] → FieldsAfter due bytes fs → ⊥
none_cases due bytes [] never some are = some are
none_cases due bytes (g ∷ fs) never some are = never g are.1 (record { text = are.0; is = are.2; spelled = are.3 })

pub no_fields : (due : Option (ℕ × ℕ)) (bytes : List ℕ) → ((f : Field) (rest : List ℕ) → Begins (IsField due f) bytes rest → ⊥) → bytes ≢ [] → HasFieldsAfter due bytes → ⊥
no_fields due bytes never some h = none_cases due bytes h.list never some h.are

pub no_more_fields : (due : Option (ℕ × ℕ)) → HasFieldsAfter due []
no_more_fields due = record { list = []; are = refl; each = tt }

-- no SOH is there
pub no_plain : (bytes : List ℕ) → HasNoSoh bytes → (value rest : List ℕ) → HasNoSoh value → bytes ≡ value ++ 1 ∷ rest → ⊥
no_plain bytes clear value rest p e =
    clear (length value) (omega (arith, ap length e, length-append value (1 ∷ rest))) (ap (λ (t : List ℕ). get_or t (length value) 0) e ∙ get_or_at value 1 rest 0 (length value) refl)

-- ---- one list of fields

front_nil : (xs ys : List ℕ) → xs ++ ys ≡ [] → xs ≡ []
front_nil [] ys e = refl
front_nil (x ∷ xs) ys e = cc

middle_some : (tag value : List ℕ) → tag ++ 61 ∷ value ++ 1 ∷ [] ≡ [] → ⊥
middle_some [] value e = cc
middle_some (x ∷ tag) value e = cc

-- a field is some bytes
field_some : (due : Option (ℕ × ℕ)) (f : Field) (bytes text rest : List ℕ) → IsField due f text → bytes ≡ text ++ rest → bytes ≡ [] → ⊥
field_some due f bytes text rest is spelled none = middle_some (decimal f.tag) f.value (sym is.spelled ∙ front_nil text rest (sym spelled ∙ none))

-- the bytes are one list of fields
pub fields_same : (due : Option (ℕ × ℕ)) (bytes : List ℕ) (fs gs : List Field) → FieldsAfter due bytes fs → FieldsAfter due bytes gs → fs ≡ gs
fields_same due bytes [] [] p q = refl
fields_same due bytes [] (g ∷ gs) p q = absurd (field_some due g bytes q.0 q.1 q.2 q.3 p)
fields_same due bytes (f ∷ fs) [] p q = absurd (field_some due f bytes p.0 p.1 p.2 p.3 q)
fields_same due bytes (f ∷ fs) (g ∷ gs) p q =
    let same = field_same due f g bytes p.1 q.1 (record { text = p.0; is = p.2; spelled = p.3 }) (record { text = q.0; is = q.2; spelled = q.3 }) in
    let behind = subst (λ (h : Field). FieldsAfter (data_after h) p.1 fs) same.0 p.4 in
    let others = fields_same (data_after g) q.1 fs gs (subst (λ (r : List ℕ). FieldsAfter (data_after g) r fs) same.1 behind) q.4 in
    ap (λ (h : Field). h ∷ fs) same.0 ∙ ap (λ (w : List Field). g ∷ w) others
