-- What stands before the first of some bytes, and what behind it.
use Rattle.std.proofs.Common.{◌≡◌, inl, inr, ℕ, ◌<◌, ◌==◌, true, false, List, [], ◌∷◌, ◌++◌, length, Option, Some, None, refl, ap, ◌∙◌, arith, if◌then◌else◌}
use Rattle.std.specs.List.{onto_first}
use Rattle.std.proofs.lemmas.Bool.{cases_Bool, eqb-true}
use Rattle.fix_settings.specs.Lines.{cut_at, onto_cut}

abbrev first_part : Option (List ℕ × List ℕ) → List ℕ
first_part None = []
first_part (Some p) = p.0

abbrev second_part : Option (List ℕ × List ℕ) → List ℕ
second_part None = []
second_part (Some p) = p.1

abbrev pub parts : List ℕ → List ℕ → Option (List ℕ × List ℕ)
parts a b = Some (a, b)

-- where bytes are cut
cut_onto : (byte b : ℕ) (bs l r : List ℕ) → ((a c : List ℕ) → cut_at byte bs ≡ Some (a, c) → bs ≡ a ++ byte ∷ c) → (o : Option (List ℕ × List ℕ)) → cut_at byte bs ≡ o → onto_cut b o ≡ Some (l, r) → b ∷ bs ≡ l ++ byte ∷ r
cut_onto byte b bs l r more None e h = cc
cut_onto byte b bs l r more (Some p) e h =
    let a : b ∷ p.0 ≡ l = ap first_part h in
    let c : p.1 ≡ r = ap second_part h in
    rw (← a, ← c) (ap (λ z. b ∷ z) (more p.0 p.1 e))

pub cut_is : (byte : ℕ) (text l r : List ℕ) → cut_at byte text ≡ Some (l, r) → text ≡ l ++ byte ∷ r
cut_is byte [] l r h = cc
cut_is byte (b ∷ bs) l r h = elim (cases_Bool (b == byte)) [
  | inl t ↦ (let e : parts [] bs ≡ parts l r = rw t at h in
      let a : [] ≡ l = ap first_part e in
      let c : bs ≡ r = ap second_part e in
      rw (← a, ← c) (ap (λ z. z ∷ bs) (eqb-true b byte t)))
  | inr f ↦ cut_onto byte b bs l r (λ a c e. cut_is byte bs a c e) (cut_at byte bs) refl (rw f at h)
]

-- ---- a text's pieces: its lines, or what stands between commas

abbrev pub Cutting : ℕ → (List ℕ → List (List ℕ)) → Type 0
Cutting byte f = (b : ℕ) (bs : List ℕ) → f (b ∷ bs) ≡ (if b == byte then [] ∷ f bs else onto_first b (f bs))

pub record IsFirst (f : List ℕ → List (List ℕ)) (text piece behind : List ℕ) : Type 0 where
  pub pieces : f text ≡ piece ∷ f behind
  pub shorter : length behind < length text

first_here : (byte : ℕ) (f : List ℕ → List (List ℕ)) → Cutting byte f → (b : ℕ) (bs piece behind : List ℕ) → (b == byte) ≡ true → parts [] bs ≡ parts piece behind → IsFirst f (b ∷ bs) piece behind
first_here byte f cuts b bs piece behind t e =
    let l : [] ≡ piece = ap first_part e in
    let r : bs ≡ behind = ap second_part e in
    let is : (if b == byte then [] ∷ f bs else onto_first b (f bs)) ≡ piece ∷ f behind = rw (t, ← l, ← r) refl in
    record { pieces = cuts b bs ∙ is; shorter = rw (← r) (omega arith) }

first_behind : (byte : ℕ) (f : List ℕ → List (List ℕ)) → Cutting byte f → (b : ℕ) (bs piece behind : List ℕ) → (b == byte) ≡ false → ((l r : List ℕ) → cut_at byte bs ≡ Some (l, r) → IsFirst f bs l r) → (o : Option (List ℕ × List ℕ)) → cut_at byte bs ≡ o → onto_cut b o ≡ Some (piece, behind) → IsFirst f (b ∷ bs) piece behind
first_behind byte f cuts b bs piece behind not more None e h = cc
first_behind byte f cuts b bs piece behind not more (Some p) e h =
    let l : b ∷ p.0 ≡ piece = ap first_part h in
    let r : p.1 ≡ behind = ap second_part h in
    let c = more p.0 p.1 e in
    let is : (if b == byte then [] ∷ f bs else onto_first b (f bs)) ≡ piece ∷ f behind = rw (not, c.pieces, ← l, ← r) refl in
    record { pieces = cuts b bs ∙ is; shorter = rw (← r) (omega (arith, c.shorter)) }

pub first_cut : (byte : ℕ) (f : List ℕ → List (List ℕ)) → Cutting byte f → (text piece behind : List ℕ) → cut_at byte text ≡ Some (piece, behind) → IsFirst f text piece behind
first_cut byte f cuts [] piece behind h = cc
first_cut byte f cuts (b ∷ bs) piece behind h = elim (cases_Bool (b == byte)) [
  | inl t ↦ first_here byte f cuts b bs piece behind t (rw t at h)
  | inr n ↦ first_behind byte f cuts b bs piece behind n (λ l r e. first_cut byte f cuts bs l r e) (cut_at byte bs) refl (rw n at h)
]
