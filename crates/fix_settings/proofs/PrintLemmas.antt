-- Texts put one behind another.
use Rattle.std.proofs.Common.{◌≡◌, ℕ, suc, ◌+◌, ◌<◌, List, ◌∷◌, ◌++◌, length, drop, get_or, sym, ap, ◌∙◌, append_assoc, add-one, drop-cons}
use Rattle.std.specs.Prelude.{flat_map}

pub text_more : {X : Type 0} (f : X → List ℕ) (xs : List X) (i : ℕ) (x : X) (out all : List ℕ) → i < length xs → x ≡ get_or xs i x → out ++ flat_map f (drop i xs) ≡ all → (out ++ f x) ++ flat_map f (drop (i + 1) xs) ≡ all
text_more f xs i x out all lt is h =
    let at : drop i xs ≡ x ∷ drop (i + 1) xs = rw add-one (drop-cons xs i x lt ∙ ap (λ y. y ∷ drop (suc i) xs) (sym is)) in
    append_assoc out (f x) (flat_map f (drop (i + 1) xs)) ∙ ap (λ ys. out ++ flat_map f ys) (sym at) ∙ h
