-- Fields and texts that are written one after the other.
use Rattle.std.proofs.Common.{◌≡◌, ℕ, List, [], ◌∷◌, ◌++◌, sym, ap, ◌∙◌, append_assoc, take, length, min, arith}
use Rattle.std.proofs.lemmas.List.{take_min}
use Rattle.fix_base.specs.Fields.{Field}
use Rattle.fix_base.specs.Says.{field_text, fields_text}
use Rattle.fix_fields.proofs.DraftLemmas.{fields_text-append}

spread : (t r x : List Field) (g : Field) → fields_text (t ++ g ∷ r ++ x) ≡ fields_text t ++ (field_text g ++ (fields_text r ++ fields_text x))
spread t r x g =
    fields_text-append (t ++ g ∷ r) x
    ∙ ap (λ (y : List ℕ). y ++ fields_text x) (fields_text-append t (g ∷ r))
    ∙ append_assoc (fields_text t) (field_text g ++ fields_text r) (fields_text x)
    ∙ ap (λ (y : List ℕ). fields_text t ++ y) (append_assoc (field_text g) (fields_text r) (fields_text x))

regrouped : (o f t g r x : List ℕ) → ((((o ++ f) ++ t) ++ g) ++ r) ++ x ≡ o ++ (f ++ (t ++ (g ++ (r ++ x))))
regrouped o f t g r x = simp append_assoc

grouped : (o : List ℕ) (f g : Field) (t r x : List Field) → ((((o ++ field_text f) ++ fields_text t) ++ field_text g) ++ fields_text r) ++ fields_text x ≡ o ++ fields_text (f ∷ t ++ g ∷ r ++ x)
grouped o f g t r x = regrouped o (field_text f) (fields_text t) (field_text g) (fields_text r) (fields_text x) ∙ ap (λ (y : List ℕ). o ++ (field_text f ++ y)) (sym (spread t r x g))

-- two fields, and others after each
pub five : (o a b c d e : List ℕ) (f g : Field) (t r x : List Field) → a ≡ o ++ field_text f → b ≡ a ++ fields_text t → c ≡ b ++ field_text g → d ≡ c ++ fields_text r → e ≡ d ++ fields_text x
    → e ≡ o ++ fields_text (f ∷ t ++ g ∷ r ++ x)
five o a b c d e f g t r x p q u v w = w ∙ ap (λ (y : List ℕ). y ++ fields_text x) (v ∙ ap (λ (y : List ℕ). y ++ fields_text r) (u ∙ ap (λ (y : List ℕ). y ++ field_text g) (q ∙ ap (λ (y : List ℕ). y ++ fields_text t) p))) ∙ grouped o f g t r x

pub four : (a b c d w x y z : List ℕ) → a ≡ [] ++ w → b ≡ a ++ x → c ≡ b ++ y → d ≡ c ++ z → d ≡ w ++ x ++ y ++ z
four a b c d w x y z p q r s = s ∙ ap (λ (t : List ℕ). t ++ z) (r ∙ ap (λ (t : List ℕ). t ++ y) (q ∙ ap (λ (t : List ℕ). t ++ x) p)) ∙ simp append_assoc

-- a front of at most so many bytes
pub capped : (n k : ℕ) (v : List ℕ) → k ≡ min (length v) n → take k v ≡ take n v
capped n k v e = ap (λ (i : ℕ). take i v) (omega arith) ∙ take_min n v
