-- The body of a message that may be kept: its MsgType, and a loop over the fields behind it.
use Rattle.std.proofs.Common.{◌≡◌, ◌≢◌, ℕ, List, [], ◌∷◌, Option, None, refl, sym, ap, subst}
use Rattle.std.specs.List.{AllByRecursion}
use Rattle.fix_base.specs.Front.{Begins}
use Rattle.fix_base.specs.Fields.{Field, IsField, FieldsAfter, data_after}
use Rattle.fix_base.specs.Payload.{field, IsEntryField, IsAppType}
use Rattle.fix_base.proofs.FieldLists.{field_same}
use Rattle.fix_base.proofs.Seals.{fields_spelled}
use Rattle.fix_fields.specs.Bodies.{IsEntryBody, HasEntryFields, IsTypeField}
use Rattle.fix_fields.proofs.FieldsLeft.{taken, none_there}

-- ---- the fields behind the MsgType

pub entry_to : (due : Option (ℕ × ℕ)) (f : Field) (bytes rest : List ℕ) → Begins (IsField due f) bytes rest → IsEntryField f → HasEntryFields (data_after f) rest → HasEntryFields due bytes
entry_to due f bytes rest b each h = record { list = f ∷ h.list; are = (b.text, rest, b.is, b.spelled, h.are); each = (each, h.each) }

pub entry_from : (due : Option (ℕ × ℕ)) (f : Field) (bytes rest : List ℕ) → Begins (IsField due f) bytes rest → bytes ≢ [] → HasEntryFields due bytes → IsEntryField f × HasEntryFields (data_after f) rest
entry_from due f bytes rest b some h =
    let t = taken due f bytes rest b some h.list h.are in
    let each = subst (AllByRecursion IsEntryField) t.is h.each in
    (each.0, record { list = t.left; are = t.are; each = each.1 })

pub no_entry_fields : (due : Option (ℕ × ℕ)) (bytes : List ℕ) → ((f : Field) (rest : List ℕ) → Begins (IsField due f) bytes rest → ⊥) → bytes ≢ [] → HasEntryFields due bytes → ⊥
no_entry_fields due bytes never some h = none_there due bytes never some h.list h.are

pub no_more_entries : (due : Option (ℕ × ℕ)) → HasEntryFields due []
no_more_entries due = record { list = []; are = refl; each = tt }

-- ---- the whole

pub body_to : (f : Field) (bytes rest : List ℕ) → Begins (IsField None f) bytes rest → IsTypeField f → HasEntryFields None rest → IsEntryBody bytes
body_to f bytes rest b is h =
    let same : f ≡ field 35 f.value = ap (λ (n : ℕ). record { tag = n; value = f.value }) is.tag in
    let are : FieldsAfter None bytes (field 35 f.value ∷ h.list) = (b.text, rest, subst (λ (g : Field). IsField None g b.text) same b.is, b.spelled, h.are) in
    record {
      type = f.value;
      rest = h.list;
      named = is.some;
      is = record { spelled = fields_spelled None bytes (field 35 f.value ∷ h.list) are; fields = are; app = is.app; each = h.each };
    }

pub body_from : (f : Field) (bytes rest : List ℕ) → Begins (IsField None f) bytes rest → IsEntryBody bytes → IsTypeField f × HasEntryFields None rest
body_from f bytes rest b h =
    let are = h.is.fields in
    let first : Begins (IsField None (field 35 h.type)) bytes are.1 = record { text = are.0; is = are.2; spelled = are.3 } in
    let same = field_same None (field 35 h.type) f bytes are.1 rest first b in (
      record {
        tag = sym (ap (λ (g : Field). g.tag) same.0);
        some = subst (λ (g : Field). g.value ≢ []) same.0 h.named;
        app = subst (λ (g : Field). IsAppType g.value) same.0 h.is.app;
      },
      record { list = h.rest; are = subst (λ (r : List ℕ). FieldsAfter None r h.rest) same.1 are.4; each = h.is.each },
    )

pub no_body : (bytes : List ℕ) → ((f : Field) (rest : List ℕ) → Begins (IsField None f) bytes rest → ⊥) → IsEntryBody bytes → ⊥
no_body bytes never h = never (field 35 h.type) h.is.fields.1 (record { text = h.is.fields.0; is = h.is.fields.2; spelled = h.is.fields.3 })
