-- Fields of which none is refused are a list of fields, and behind a MsgType the body of a message.
use Rattle.std.proofs.Common.{◌≡◌, ◌≢◌, ℕ, ◌≤◌, Bool, true, false, ◌&&◌, ◌||◌, ◌==◌, if◌then◌else◌, List, [], ◌∷◌, ◌++◌, length, get_or, Option, Some, None, refl, sym, ap, subst, ◌∙◌, append_assoc, arith, eq-eqb, lit≤}
use Rattle.std.specs.Prelude.{MatchBool, option_and_then}
use Rattle.std.specs.Fmt.{decimal}
use Rattle.std.specs.List.{list_any, list_all, AllByRecursion}
use Rattle.std.specs.Str.Parse.{digits_value}
use Rattle.std.proofs.lemmas.Bool.{eqb-true, false_from_ne_true}
use Rattle.std.proofs.lemmas.List.Folds.{list_any_at}
use Rattle.fix_base.specs.declared.tags.TheConstants.{DATA_PAIRS, SESSION_TAGS, ENGINE_TAGS}
use Rattle.fix_base.specs.Frame.{HasNoSoh}
use Rattle.fix_base.specs.Tags.{beside, data_tag, is_session_tag, is_data_tag, is_header_tag, is_engine_tag}
use Rattle.fix_base.specs.Fields.{Field, IsValue, FieldsAfter, data_after, is_data_length}
use Rattle.fix_base.specs.Says.{field_text, fields_text}
use Rattle.fix_base.specs.Payload.{field, IsEntryField, IsAppPayload, LAST_TIME, LONGEST_BODY}
use Rattle.fix_base.proofs.Seals.{type_tag}
use Rattle.fix_fields.specs.Faulty.{due_behind}
use Rattle.fix_fields.specs.Drafts.{has_body_field, has_soh, is_due, refusal, AreAccepted, body_with}
use Rattle.fix_fields.specs.Drafted.{AreTagged, DraftText, IsDraft}
use Rattle.fix_fields.specs.declared.judging.DraftFault.TheVariants as fault
use Rattle.fix_fields.proofs.DraftLemmas.{due_push}

-- ---- what a field that is accepted is

-- what the rows of a refusal say where there is none
record Accepts (engine sized due soh : Bool) : Type 0 where
  free : engine ≡ false
  data_due : sized ≡ true → due ≡ true
  plain : sized ≡ false → soh ≡ false

accepts : (engine misplaced empty sized due soh : Bool) (tag : ℕ)
    → (if engine then Some (fault.ReservedTag tag) else (if misplaced then Some (fault.HeaderOrder tag) else (if empty then Some (fault.EmptyValue tag) else (if sized then (if due then None else Some (fault.LengthMismatch tag)) else (if soh then Some (fault.SohInValue tag) else None))))) ≡ None → Accepts engine sized due soh
accepts true m e d u s tag is = cc
accepts false true e d u s tag is = cc
accepts false false true d u s tag is = cc
accepts false false false true true s tag is = record { free = refl; data_due = λ _. refl; plain = λ w. cc }
accepts false false false true false s tag is = cc
accepts false false false false u true tag is = cc
accepts false false false false u false tag is = record { free = refl; data_due = λ w. cc; plain = λ _. refl }

accepted_of : (before : List Field) (f : Field) → refusal before f ≡ None → Accepts (is_engine_tag f.tag) (is_data_tag f.tag) (is_due (due_behind None before) f) (has_soh f.value)
accepted_of before f is = accepts (is_engine_tag f.tag) (is_header_tag f.tag && has_body_field before) (length f.value == 0) (is_data_tag f.tag) (is_due (due_behind None before) f) (has_soh f.value) f.tag is

clear_of_soh : (value : List ℕ) → has_soh value ≡ false → HasNoSoh value
clear_of_soh value none k lt e = let wrong : has_soh value ≡ true = list_any_at (λ b. b == 1) value k 0 lt (eq-eqb (get_or value k 0) 1 e) in let both : true ≡ false = sym wrong ∙ none in cc

-- what is due is data
or_true : (a : Bool) → (a || true) ≡ true
or_true true = refl
or_true false = refl

beside_case : (b : Bool) (y x : ℕ) (known : Option ℕ) (later : Bool) → (known ≡ Some x → later ≡ true) → (if b then Some y else known) ≡ Some x → ((y == x) || later) ≡ true
beside_case true y x known later more e = let same : y ≡ x = cc in ap (λ b. b || later) (eq-eqb y x same)
beside_case false y x known later more e = ap (λ b. (y == x) || b) (more e) ∙ or_true (y == x)

beside_known : (tag x : ℕ) (pairs : List (ℕ × ℕ)) → beside tag pairs ≡ Some x → list_any (λ pair. pair.1 == x) pairs ≡ true
beside_known tag x [] e = cc
beside_known tag x (p ∷ ps) e = beside_case (p.0 == tag) p.1 x (beside tag ps) (list_any (λ pair. pair.1 == x) ps) (beside_known tag x ps) e

abbrev option_tag : ℕ → Option (ℕ × ℕ) → ℕ
option_tag x None = x
option_tag x (Some d) = d.0

length_case : (b : Bool) (x n : ℕ) (d : ℕ × ℕ) → (if b then Some (x, n) else None) ≡ Some d → x ≡ d.0
length_case true x n d e = ap (λ (o : Option (ℕ × ℕ)). option_tag x o) e
length_case false x n d e = cc

after_known : (tag : Option ℕ) (value : List ℕ) (d : ℕ × ℕ) → option_and_then (λ (x : ℕ). if is_data_length value then Some (x, digits_value 10 value) else None) tag ≡ Some d → tag ≡ Some d.0
after_known None value d e = cc
after_known (Some x) value d e = ap Some (length_case (is_data_length value) x (digits_value 10 value) d e)

data_known : (f : Field) (d : ℕ × ℕ) → data_after f ≡ Some d → is_data_tag d.0 ≡ true
data_known f d e = beside_known f.tag d.0 DATA_PAIRS (after_known (data_tag f.tag) f.value d e)

due_known : (due : Option (ℕ × ℕ)) (before : List Field) → ((d : ℕ × ℕ) → due ≡ Some d → is_data_tag d.0 ≡ true) → (d : ℕ × ℕ) → due_behind due before ≡ Some d → is_data_tag d.0 ≡ true
due_known due [] known d e = known d e
due_known due (f ∷ fs) known d e = due_known (data_after f) fs (data_known f) d e

-- ---- the value of a field that is accepted

same_case : (b : Bool) (n m : ℕ) (P : Type 0) → (b && (n == m)) ≡ true → MatchBool b (n ≡ m) P
same_case true n m P e = eqb-true n m e
same_case false n m P e = cc

other_case : (b : Bool) (P Q : Type 0) → b ≡ false → Q → MatchBool b P Q
other_case true P Q e q = cc
other_case false P Q e q = q

due_value : (due : Option (ℕ × ℕ)) (f : Field) → is_due due f ≡ true → IsValue due f
due_value None f e = cc
due_value (Some d) f e = same_case (f.tag == d.0) (length f.value) d.1 (HasNoSoh f.value) e

not_due : (f : Field) (d : ℕ × ℕ) → is_data_tag d.0 ≡ true → is_data_tag f.tag ≡ false → (f.tag == d.0) ≡ false
not_due f d known none = false_from_ne_true (f.tag == d.0) (λ e. let same : is_data_tag f.tag ≡ is_data_tag d.0 = ap is_data_tag (eqb-true f.tag d.0 e) in let wrong : false ≡ true = sym none ∙ same ∙ known in cc)

plain_value : (due : Option (ℕ × ℕ)) (f : Field) → ((d : ℕ × ℕ) → due ≡ Some d → is_data_tag d.0 ≡ true) → is_data_tag f.tag ≡ false → HasNoSoh f.value → IsValue due f
plain_value None f known none clear = clear
plain_value (Some d) f known none clear = other_case (f.tag == d.0) (length f.value ≡ d.1) (HasNoSoh f.value) (not_due f d (known d refl) none) clear

accepted_value : (due : Option (ℕ × ℕ)) (f : Field) (b : Bool) → b ≡ is_data_tag f.tag → ((d : ℕ × ℕ) → due ≡ Some d → is_data_tag d.0 ≡ true) → Accepts (is_engine_tag f.tag) (is_data_tag f.tag) (is_due due f) (has_soh f.value) → IsValue due f
accepted_value due f true e known a = due_value due f (a.data_due (sym e))
accepted_value due f false e known a = plain_value due f known (sym e) (clear_of_soh f.value (a.plain (sym e)))

-- ---- the fields that are accepted

pub accepted_fields : (before fs : List Field) → AreAccepted before fs → AreTagged fs → FieldsAfter (due_behind None before) (fields_text fs) fs
accepted_fields before [] all tags = refl
accepted_fields before (f ∷ fs) all tags = (
  field_text f,
  fields_text fs,
  record {
    first = tags.0.first;
    last = tags.0.last;
    value = accepted_value (due_behind None before) f (is_data_tag f.tag) refl (due_known None before (λ d e. cc)) (accepted_of before f all.0);
    spelled = refl;
  },
  refl,
  subst (λ (due : Option (ℕ × ℕ)). FieldsAfter due (fields_text fs) fs) (due_push None before f) (accepted_fields (before ++ f ∷ []) fs all.1 tags.1),
)

-- a list of tags within another
first_of : (a b : Bool) → (a && b) ≡ true → a ≡ true
first_of true b e = refl
first_of false b e = cc

rest_of : (a b : Bool) → (a && b) ≡ true → b ≡ true
rest_of true b e = e
rest_of false b e = cc

within_case : (b : Bool) (tag x : ℕ) (ys : List ℕ) (later : Bool) → (b ≡ true → list_any (λ y. y == tag) ys ≡ true) → (later ≡ true → list_any (λ y. y == tag) ys ≡ true) → (b || later) ≡ true → list_any (λ y. y == tag) ys ≡ true
within_case true tag x ys later here more e = here refl
within_case false tag x ys later here more e = more e

within : (tag : ℕ) (xs ys : List ℕ) → list_all (λ x. list_any (λ y. y == x) ys) xs ≡ true → list_any (λ x. x == tag) xs ≡ true → list_any (λ y. y == tag) ys ≡ true
within tag [] ys all e = cc
within tag (x ∷ xs) ys all e = within_case (x == tag) tag x ys (list_any (λ z. z == tag) xs) (λ t. subst (λ z. list_any (λ y. y == z) ys ≡ true) (eqb-true x tag t) (first_of (list_any (λ y. y == x) ys) _ all)) (within tag xs ys (rest_of (list_any (λ y. y == x) ys) _ all)) e

no_tag : (f : Field) → is_engine_tag f.tag ≡ false → (k : ℕ) → is_engine_tag k ≡ true → f.tag ≢ k
no_tag f free k known e = let wrong : true ≡ false = sym known ∙ sym (ap is_engine_tag e) ∙ free in cc

engine_free : (f : Field) → is_engine_tag f.tag ≡ false → IsEntryField f
engine_free f free = record {
  no_begin = no_tag f free 8 refl;
  no_length = no_tag f free 9 refl;
  no_sum = no_tag f free 10 refl;
  no_type = no_tag f free 35 refl;
  no_header = false_from_ne_true (is_session_tag f.tag) (λ e. let wrong : true ≡ false = sym (within f.tag SESSION_TAGS ENGINE_TAGS refl e) ∙ free in cc);
}

pub entry_fields : (before fs : List Field) → AreAccepted before fs → AllByRecursion IsEntryField fs
entry_fields before [] all = tt
entry_fields before (f ∷ fs) all = (engine_free f (accepted_of before f all.0).free, entry_fields (before ++ f ∷ []) fs all.1)

-- ---- the body of a draft

-- the body of a draft begins with MsgType (35)
pub kind_first : (kind rest : List ℕ) → body_with kind rest ≡ (decimal 35 ++ 61 ∷ kind ++ 1 ∷ []) ++ rest
kind_first kind rest = ap (λ (t : List ℕ). t ++ (kind ++ 1 ∷ rest)) (sym type_tag) ∙ simp append_assoc

pub draft_payload : (d : DraftText) (time : ℕ) → IsDraft d → time ≤ LAST_TIME → IsAppPayload time (body_with d.kind d.rest)
draft_payload d time h fits =
    let named = h.may.named in
    let body : body_with d.kind d.rest ≡ fields_text (field 35 d.kind ∷ h.fields) = kind_first d.kind d.rest ∙ ap (λ (t : List ℕ). (decimal 35 ++ 61 ∷ d.kind ++ 1 ∷ []) ++ t) h.spelled in
    let first : FieldsAfter None (fields_text (field 35 d.kind ∷ h.fields)) (field 35 d.kind ∷ h.fields) = (
      field_text (field 35 d.kind),
      fields_text h.fields,
      record { first = lit≤ tt; last = lit≤ tt; value = named.no_soh; spelled = refl },
      refl,
      accepted_fields [] h.fields h.may.accepted h.tags,
    ) in
    record {
      time_fits = fits;
      short = subst (λ (t : List ℕ). length (body_with d.kind t) ≤ LONGEST_BODY) (sym h.spelled) h.may.fits;
      type = d.kind;
      rest = h.fields;
      named = λ e. omega (arith, ap length e, named.some);
      is = record {
        spelled = body;
        fields = subst (λ (t : List ℕ). FieldsAfter None t (field 35 d.kind ∷ h.fields)) (sym body) first;
        app = named.app;
        each = entry_fields [] h.fields h.may.accepted;
      };
    }
