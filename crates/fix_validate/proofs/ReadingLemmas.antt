-- The fields of bytes, taken one after another.
use Rattle.std.proofs.Common.{◌≡◌, ◌≢◌, ℕ, ◌+◌, ◌<◌, length, drop, get_or, List, [], ◌∷◌, ◌++◌, append_assoc, append-nil, Option, Some, None, refl, sym, ap, subst, ◌∙◌}
use Rattle.fix_base.specs.Front.{Begins}
use Rattle.fix_base.specs.Fields.{Field, IsField, FieldsAfter, data_after}
use Rattle.fix_base.specs.Says.{value_of}
use Rattle.fix_fields.specs.HeaderValues.{IsLeft}
use Rattle.fix_fields.proofs.EnvelopeLemmas.{value_here}
use Rattle.fix_validate.proofs.FieldLemmas.{drop_more}
use Rattle.fix_fields.proofs.FieldsLeft.{left_start, left_step, left_none, left_end}

-- these were taken, and the others are left
abbrev pub Taken : List Field → List Field → List Field → Type 0
Taken done all left = done ++ left ≡ all

pub taken_none : (bytes : List ℕ) → IsLeft bytes None bytes (Taken [])
taken_none bytes = left_start bytes (Taken []) (λ all. refl)

pub taken_more : (done new : List Field) (bytes : List ℕ) (due next : Option (ℕ × ℕ)) (f g : Field) (rest behind : List ℕ) → Begins (IsField due f) rest behind → rest ≢ [] → next ≡ data_after f → g ≡ f → new ≡ done ++ g ∷ []
    → IsLeft bytes due rest (Taken done) → IsLeft bytes next behind (Taken new)
taken_more done new bytes due next f g rest behind b some n same grown h =
    subst (λ (d : Option (ℕ × ℕ)). IsLeft bytes d behind (Taken new)) (sym n)
    (left_step (Taken done) (Taken new) bytes due f rest behind b some (λ all left e. ap (λ (l : List Field). l ++ left) (grown ∙ ap (λ (x : Field). done ++ x ∷ []) same) ∙ append_assoc done (f ∷ []) left ∙ e) h)

pub taken_all : (done : List Field) (bytes : List ℕ) (due : Option (ℕ × ℕ)) (rest : List ℕ) → rest ≡ [] → IsLeft bytes due rest (Taken done) → (all : List Field) → FieldsAfter None bytes all → done ≡ all
taken_all done bytes due rest none h all are = sym (append-nil done) ∙ left_end (Taken done) bytes due rest none h all are

pub taken_stop : (done : List Field) (bytes : List ℕ) (due : Option (ℕ × ℕ)) (rest : List ℕ) → ((f : Field) (behind : List ℕ) → Begins (IsField due f) rest behind → ⊥) → rest ≢ [] → IsLeft bytes due rest (Taken done) → (all : List Field) → FieldsAfter None bytes all → done ≡ all
taken_stop done bytes due rest never some h all are = absurd (left_none (Taken done) bytes due rest never some h all are)

-- the first field with the tag
pub value_at : (tag : ℕ) (fs : List Field) (i : ℕ) (f : Field) → i < length fs → f ≡ get_or fs i f → f.tag ≡ tag → value_of tag (drop i fs) ≡ value_of tag fs → Some f.value ≡ value_of tag fs
value_at tag fs i f lt here is h = sym (ap (value_of tag) (drop_more fs i f lt ∙ ap (λ (x : Field). x ∷ drop (i + 1) fs) (sym here)) ∙ value_here tag f (drop (i + 1) fs) is) ∙ h
