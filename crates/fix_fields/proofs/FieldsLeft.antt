-- A loop over fields: one field is taken, and the others are left.
use Rattle.std.proofs.Common.{◌≡◌, ◌≢◌, ℕ, ◌+◌, Bool, true, false, ◌==◌, if◌then◌else◌, length, ◌<◌, ◌≤◌, List, [], ◌∷◌, ◌++◌, Option, Some, None, refl, sym, ap, subst, ◌∙◌, arith}
use Rattle.std.specs.Fmt.{decimal}
use Rattle.std.proofs.lemmas.List.{length-append}
use Rattle.fix_base.specs.Front.{Begins}
use Rattle.fix_base.specs.Fields.{Field, IsField, FieldsAfter, data_after}
use Rattle.fix_base.specs.Shape.{Parts, HasShape}
use Rattle.fix_base.specs.Says.{value_of, times_of, HasFields}
use Rattle.fix_base.proofs.FieldLists.{field_same}
use Rattle.fix_fields.specs.HeaderValues.{Firsts, value_or, value_with, firsts_with, firsts_and, IsLeft}

-- the fields are this one and those behind it
pub record Taken (f : Field) (rest : List ℕ) (fs : List Field) : Type 0 where
  pub left : List Field
  pub is : fs ≡ f ∷ left
  pub are : FieldsAfter (data_after f) rest left

pub taken : (due : Option (ℕ × ℕ)) (f : Field) (bytes rest : List ℕ) → Begins (IsField due f) bytes rest → bytes ≢ [] → (fs : List Field) → FieldsAfter due bytes fs → Taken f rest fs
taken due f bytes rest b some [] are = absurd (some are)
taken due f bytes rest b some (g ∷ fs) are =
    let first : Begins (IsField due g) bytes are.1 = record { text = are.0; is = are.2; spelled = are.3 } in
    let same = field_same due g f bytes are.1 rest first b in
    record {
      left = fs;
      is = ap (λ (h : Field). h ∷ fs) same.0;
      are = subst (λ (h : Field). FieldsAfter (data_after h) rest fs) same.0 (subst (λ (r : List ℕ). FieldsAfter (data_after g) r fs) same.1 are.4);
    }

-- where no field stands, there is no list of fields
pub none_there : (due : Option (ℕ × ℕ)) (bytes : List ℕ) → ((f : Field) (rest : List ℕ) → Begins (IsField due f) bytes rest → ⊥) → bytes ≢ [] → (fs : List Field) → FieldsAfter due bytes fs → ⊥
none_there due bytes never some [] are = some are
none_there due bytes never some (g ∷ fs) are = never g are.1 (record { text = are.0; is = are.2; spelled = are.3 })

-- a field has a byte
is_some : (due : Option (ℕ × ℕ)) (f : Field) (bytes text rest : List ℕ) → IsField due f text → bytes ≡ text ++ rest → bytes ≡ [] → ⊥
is_some due f bytes text rest is spelled none =
    omega (arith, ap length none, ap length spelled, ap length is.spelled, length-append text rest, length-append (decimal f.tag ++ 61 ∷ f.value) (1 ∷ []))

-- behind the last byte there is no field
pub none_left : (due : Option (ℕ × ℕ)) (bytes : List ℕ) → bytes ≡ [] → (fs : List Field) → FieldsAfter due bytes fs → fs ≡ []
none_left due bytes none [] are = refl
none_left due bytes none (g ∷ fs) are = absurd (is_some due g bytes are.0 are.1 are.2 are.3 none)

-- ---- what is known of the first values

value_case : (b : Bool) (v : List ℕ) (tag : ℕ) (fs : List Field) → (if b then Some v else value_of tag fs) ≡ value_or (if b then Some v else None) tag fs
value_case true v tag fs = refl
value_case false v tag fs = refl

value_step : (known : Option (List ℕ)) (tag : ℕ) (f : Field) (fs : List Field) → value_or known tag (f ∷ fs) ≡ value_or (value_with known tag f) tag fs
value_step None tag f fs = value_case (f.tag == tag) f.value tag fs
value_step (Some v) tag f fs = refl

times_case : (b : Bool) (n k : ℕ) → n + (if b then 1 + k else k) ≡ n + (if b then 1 else 0) + k
times_case true n k = omega arith
times_case false n k = omega arith

firsts_same : (m n : Firsts) → m.type ≡ n.type → m.number ≡ n.number → m.numbers ≡ n.numbers → m.poss_dup ≡ n.poss_dup → m.sender ≡ n.sender → m.target ≡ n.target → m.sending_time ≡ n.sending_time → m.orig_sending_time ≡ n.orig_sending_time → m ≡ n
firsts_same m n a b c d e f g h =
    ap (λ (x : Option (List ℕ)). record m { type = x }) a
    ∙ ap (λ (x : Option (List ℕ)). record m { type = n.type; number = x }) b
    ∙ ap (λ (x : ℕ). record m { type = n.type; number = n.number; numbers = x }) c
    ∙ ap (λ (x : Option (List ℕ)). record n { poss_dup = x; sender = m.sender; target = m.target; sending_time = m.sending_time; orig_sending_time = m.orig_sending_time }) d
    ∙ ap (λ (x : Option (List ℕ)). record n { sender = x; target = m.target; sending_time = m.sending_time; orig_sending_time = m.orig_sending_time }) e
    ∙ ap (λ (x : Option (List ℕ)). record n { target = x; sending_time = m.sending_time; orig_sending_time = m.orig_sending_time }) f
    ∙ ap (λ (x : Option (List ℕ)). record n { sending_time = x; orig_sending_time = m.orig_sending_time }) g
    ∙ ap (λ (x : Option (List ℕ)). record n { orig_sending_time = x }) h

pub firsts_step : (n : Firsts) (f : Field) (fs : List Field) → firsts_with n (f ∷ fs) ≡ firsts_with (firsts_and n f) fs
firsts_step n f fs = firsts_same (firsts_with n (f ∷ fs)) (firsts_with (firsts_and n f) fs)
    (value_step n.type 35 f fs) (value_step n.number 34 f fs) (times_case (f.tag == 34) n.numbers (times_of 34 fs)) (value_step n.poss_dup 43 f fs)
    (value_step n.sender 49 f fs) (value_step n.target 56 f fs) (value_step n.sending_time 52 f fs) (value_step n.orig_sending_time 122 f fs)

value_none : (known : Option (List ℕ)) (tag : ℕ) → value_or known tag [] ≡ known
value_none None tag = refl
value_none (Some v) tag = refl

-- with no field more nothing more is known
pub firsts_end : (n : Firsts) → firsts_with n [] ≡ n
firsts_end n = firsts_same (firsts_with n []) n (value_none n.type 35) (value_none n.number 34) (omega arith) (value_none n.poss_dup 43) (value_none n.sender 49) (value_none n.target 56) (value_none n.sending_time 52) (value_none n.orig_sending_time 122)

-- ---- the loop

pub left_start : (bytes : List ℕ) (R : List Field → List Field → Type 0) → ((all : List Field) → R all all) → IsLeft bytes None bytes R
left_start bytes R first = record { each = λ all are. (all, are, first all) }

pub left_step : (R S : List Field → List Field → Type 0) (bytes : List ℕ) (due : Option (ℕ × ℕ)) (f : Field) (rest behind : List ℕ) → Begins (IsField due f) rest behind → rest ≢ [] → ((all left : List Field) → R all (f ∷ left) → S all left)
    → IsLeft bytes due rest R → IsLeft bytes (data_after f) behind S
left_step R S bytes due f rest behind b some step h = record {
  each = λ all are.
      let now = h.each all are in
      let t = taken due f rest behind b some now.0 now.1 in
      (t.left, t.are, step all t.left (subst (R all) t.is now.2));
}

pub left_none : (R : List Field → List Field → Type 0) (bytes : List ℕ) (due : Option (ℕ × ℕ)) (rest : List ℕ) → ((f : Field) (behind : List ℕ) → Begins (IsField due f) rest behind → ⊥) → rest ≢ [] → IsLeft bytes due rest R → (all : List Field) → FieldsAfter None bytes all → ⊥
left_none R bytes due rest never some h all are = let now = h.each all are in none_there due rest never some now.0 now.1

pub left_end : (R : List Field → List Field → Type 0) (bytes : List ℕ) (due : Option (ℕ × ℕ)) (rest : List ℕ) → rest ≡ [] → IsLeft bytes due rest R → (all : List Field) → FieldsAfter None bytes all → R all []
left_end R bytes due rest none h all are = let now = h.each all are in subst (R all) (none_left due rest none now.0 now.1) now.2

-- a field taken leaves less
pub shorter : (due : Option (ℕ × ℕ)) (f : Field) (bytes rest : List ℕ) → Begins (IsField due f) bytes rest → length rest < length bytes
shorter due f bytes rest b =
    omega (arith, ap length b.spelled, ap length b.is.spelled, length-append b.text rest, length-append (decimal f.tag ++ 61 ∷ f.value) (1 ∷ []))

one_more : (b : Bool) (n k m : ℕ) → m ≡ n + (if b then 1 else 0) → m ≤ n + 1
one_more true n k m e = omega arith
one_more false n k m e = omega arith

-- MsgSeqNum (34) stood there once more at most
pub numbers_more : (n m : Firsts) (f : Field) → m ≡ firsts_and n f → m.numbers ≤ n.numbers + 1
numbers_more n m f e = one_more (f.tag == 34) n.numbers 0 m.numbers (ap (λ (x : Firsts). x.numbers) e)

-- ---- the fields of a frame

-- the same of a frame's fields
pub record IsLeftOf (text : List ℕ) (due : Option (ℕ × ℕ)) (rest : List ℕ) (R : List Field → List Field → Type 0) : Type 0 where
  pub each : (all : List Field) → HasFields text all → (left : List Field) × FieldsAfter due rest left × R all left

pub of_start : (text body : List ℕ) (R : List Field → List Field → Type 0) → ((parts : Parts) → HasShape parts text → body ≡ parts.body) → ((all : List Field) → R all all) → IsLeftOf text None body R
of_start text body R is first = record { each = λ all h. (all, subst (λ (b : List ℕ). FieldsAfter None b all) (sym (is h.parts h.shape)) h.are, first all) }

pub of_step : (R S : List Field → List Field → Type 0) (text : List ℕ) (due : Option (ℕ × ℕ)) (f : Field) (rest behind : List ℕ) → Begins (IsField due f) rest behind → rest ≢ [] → ((all left : List Field) → R all (f ∷ left) → S all left)
    → IsLeftOf text due rest R → IsLeftOf text (data_after f) behind S
of_step R S text due f rest behind b some step h = record {
  each = λ all are.
      let now = h.each all are in
      let t = taken due f rest behind b some now.0 now.1 in
      (t.left, t.are, step all t.left (subst (R all) t.is now.2));
}

-- where a field is met, it is the next of those that are left
pub of_here : (R : List Field → List Field → Type 0) (text : List ℕ) (due : Option (ℕ × ℕ)) (f : Field) (rest behind : List ℕ) → Begins (IsField due f) rest behind → rest ≢ [] → IsLeftOf text due rest R → (all : List Field) → HasFields text all → (left : List Field) × R all (f ∷ left)
of_here R text due f rest behind b some h all are =
    let now = h.each all are in
    let t = taken due f rest behind b some now.0 now.1 in
    (t.left, subst (R all) t.is now.2)

pub of_none : (R : List Field → List Field → Type 0) (text : List ℕ) (due : Option (ℕ × ℕ)) (rest : List ℕ) → ((f : Field) (behind : List ℕ) → Begins (IsField due f) rest behind → ⊥) → rest ≢ [] → IsLeftOf text due rest R → (all : List Field) → HasFields text all → ⊥
of_none R text due rest never some h all are = let now = h.each all are in none_there due rest never some now.0 now.1

pub of_end : (R : List Field → List Field → Type 0) (text : List ℕ) (due : Option (ℕ × ℕ)) (rest : List ℕ) → rest ≡ [] → IsLeftOf text due rest R → (all : List Field) → HasFields text all → R all []
of_end R text due rest none h all are = let now = h.each all are in subst (R all) (none_left due rest none now.0 now.1) now.2
