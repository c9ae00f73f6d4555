-- The fields before a place, and what is there.
use Rattle.std.proofs.Common.{◌≡◌, ◌≢◌, ℕ, ◌+◌, ◌-◌, ◌<◌, List, [], ◌∷◌, ◌++◌, length, take, drop, Option, None, refl, sym, ap, subst, ◌∙◌, append_assoc, arith}
use Rattle.std.proofs.lemmas.List.{append-nil, length-append, take_at, drop_at}
use Rattle.fix_base.specs.Front.{Begins}
use Rattle.fix_base.specs.Fields.{Field, IsField, FieldsAfter, data_after}
use Rattle.fix_fields.specs.Faulty.{IsListed, due_behind, IsFaultAt}
use Rattle.fix_fields.proofs.FieldsLeft.{taken, none_there, shorter}

-- fields stand in front of the rest, and this is due behind them
pub record HasPassed (bytes : List ℕ) (due : Option (ℕ × ℕ)) (rest : List ℕ) : Type 0 where
  pub front : List ℕ
  pub before : List Field
  pub are : FieldsAfter None front before
  pub due_is : due ≡ due_behind None before
  pub spelled : bytes ≡ front ++ rest

pub passed_none : (bytes : List ℕ) → HasPassed bytes None bytes
passed_none bytes = record { front = []; before = []; are = refl; due_is = refl; spelled = refl }

-- one more field behind fields
fields_push : (due : Option (ℕ × ℕ)) (front text : List ℕ) (fs : List Field) (f : Field) → FieldsAfter due front fs → IsField (due_behind due fs) f text → FieldsAfter due (front ++ text) (fs ++ f ∷ [])
fields_push due front text [] f are is = (text, [], is, ap (λ (t : List ℕ). t ++ text) are ∙ sym (append-nil text), refl)
fields_push due front text (g ∷ fs) f are is =
    (are.0, are.1 ++ text, are.2, ap (λ (t : List ℕ). t ++ text) are.3 ∙ append_assoc are.0 are.1 text, fields_push (data_after g) are.1 text fs f are.4 is)

due_push : (due : Option (ℕ × ℕ)) (fs : List Field) (f : Field) → due_behind due (fs ++ f ∷ []) ≡ data_after f
due_push due [] f = refl
due_push due (g ∷ fs) f = due_push (data_after g) fs f

pub passed_more : (bytes : List ℕ) (due : Option (ℕ × ℕ)) (rest behind : List ℕ) (f : Field) → HasPassed bytes due rest → Begins (IsField due f) rest behind → HasPassed bytes (data_after f) behind
passed_more bytes due rest behind f h b = record {
  front = h.front ++ b.text;
  before = h.before ++ f ∷ [];
  are = fields_push None h.front b.text h.before f h.are (subst (λ (d : Option (ℕ × ℕ)). IsField d f b.text) h.due_is b.is);
  due_is = sym (due_push None h.before f);
  spelled = h.spelled ∙ ap (λ (t : List ℕ). h.front ++ t) b.spelled ∙ sym (append_assoc h.front b.text behind);
}

-- behind the last byte all bytes are fields
pub passed_all : (bytes : List ℕ) (due : Option (ℕ × ℕ)) (rest : List ℕ) → HasPassed bytes due rest → rest ≡ [] → IsListed bytes
passed_all bytes due rest h none = record {
  list = h.before;
  are = subst (λ (t : List ℕ). FieldsAfter None t h.before) (sym (h.spelled ∙ ap (λ (t : List ℕ). h.front ++ t) none ∙ append-nil h.front)) h.are;
}

behind_nil : (a b : List ℕ) → a ++ b ≡ [] → b ≡ []
behind_nil [] b e = e
behind_nil (x ∷ a) b e = cc

-- where no field stands behind fields, the bytes are no list of fields
still_there : (due : Option (ℕ × ℕ)) (bytes front rest : List ℕ) (before fs : List Field) → FieldsAfter due front before → bytes ≡ front ++ rest → FieldsAfter due bytes fs
    → (bytes ≢ [] → ((f : Field) (behind : List ℕ) → Begins (IsField (due_behind due before) f) rest behind → ⊥) → rest ≢ [] → ⊥)
still_there due bytes front rest [] fs are spelled all some never more =
    let e : bytes ≡ rest = spelled ∙ ap (λ (t : List ℕ). t ++ rest) are in
    none_there due rest never more fs (subst (λ (t : List ℕ). FieldsAfter due t fs) e all)
still_there due bytes front rest (g ∷ before) fs are spelled all some never more =
    let first : Begins (IsField due g) bytes (are.1 ++ rest) = record { text = are.0; is = are.2; spelled = spelled ∙ ap (λ (t : List ℕ). t ++ rest) are.3 ∙ append_assoc are.0 are.1 rest } in
    let t = taken due g bytes (are.1 ++ rest) first some fs all in
    still_there (data_after g) (are.1 ++ rest) are.1 rest before t.left are.4 refl t.are (λ e. more (behind_nil are.1 rest e)) never more

pub not_listed : (bytes : List ℕ) (due : Option (ℕ × ℕ)) (rest : List ℕ) → HasPassed bytes due rest → ((f : Field) (behind : List ℕ) → Begins (IsField due f) rest behind → ⊥) → rest ≢ [] → IsListed bytes → ⊥
not_listed bytes due rest h never more listed =
    still_there None bytes h.front rest h.before listed.list h.are h.spelled listed.are (λ e. more (behind_nil h.front rest (sym h.spelled ∙ e)))
    (λ f behind b. never f behind (subst (λ (d : Option (ℕ × ℕ)). Begins (IsField d f) rest behind) (sym h.due_is) b)) more

pub fault_here : (bytes : List ℕ) (due : Option (ℕ × ℕ)) (rest : List ℕ) → HasPassed bytes due rest → ((f : Field) (behind : List ℕ) → Begins (IsField due f) rest behind → ⊥) → 0 < length rest → IsFaultAt bytes (length bytes - length rest)
fault_here bytes due rest h never some =
    let long : length bytes ≡ length h.front + length rest = ap length h.spelled ∙ length-append h.front rest in
    let place : length bytes - length rest ≡ length h.front = omega (arith, long) in
    let front : take (length bytes - length rest) bytes ≡ h.front = ap (take (length bytes - length rest)) h.spelled ∙ take_at h.front rest (length bytes - length rest) (sym place) in
    let behind : drop (length bytes - length rest) bytes ≡ rest = ap (drop (length bytes - length rest)) h.spelled ∙ drop_at h.front rest (length bytes - length rest) (sym place) in
    record {
      inside = omega (arith, long);
      before = h.before;
      are = subst (λ (t : List ℕ). FieldsAfter None t h.before) (sym front) h.are;
      none = λ f after b. never f after (subst (λ (d : Option (ℕ × ℕ)). Begins (IsField d f) rest after) (sym h.due_is) (subst (λ (t : List ℕ). Begins (IsField (due_behind None h.before) f) t after) behind b));
    }

-- where no field stands, none is left
pub no_left : (due : Option (ℕ × ℕ)) (bytes : List ℕ) → ((f : Field) (behind : List ℕ) → Begins (IsField due f) bytes behind → ⊥) → (fs : List Field) → FieldsAfter due bytes fs → fs ≡ []
no_left due bytes never [] are = refl
no_left due bytes never (g ∷ fs) are = absurd (never g are.1 (record { text = are.0; is = are.2; spelled = are.3 }))

-- the field at the front is the first of those that are left
pub next_left : (due next : Option (ℕ × ℕ)) (f : Field) (bytes rest : List ℕ) → Begins (IsField due f) bytes rest → next ≡ data_after f → (fs : List Field) → FieldsAfter due bytes fs → (left : List Field) × (fs ≡ f ∷ left) × FieldsAfter next rest left
next_left due next f bytes rest b e fs are =
    let t = taken due f bytes rest b (λ none. omega (arith, ap length none, shorter due f bytes rest b)) fs are in
    (t.left, t.is, subst (λ (d : Option (ℕ × ℕ)). FieldsAfter d rest t.left) (sym e) t.are)
