-- The files behind the first of a list.
use Rattle.std.proofs.Common.{◌≡◌, ◌↔◌, inl, inr, ℕ, ◌<◌, ◌≤◌, List, [], ◌∷◌, length, get_or, sym, subst, arith}
use Rattle.std.specs.List.{between}
use Rattle.std.proofs.lemmas.Slice.{first_rest}
use Rattle.fix_disk.specs.Source.{IsFile}

module _ (name : List ℕ) (files : List (List ℕ × List ℕ)) (file d : List ℕ × List ℕ) (some : 1 ≤ length files) (is : file ≡ get_or files 0 d) where
  whole : files ≡ file ∷ between 1 (length files) files
  whole = subst (λ f. files ≡ f ∷ between 1 (length files) files) (sym is) (first_rest files d some)

  pub first_file : (bytes : List ℕ) → file.0 ≡ name → file.1 ≡ bytes → IsFile name bytes files
  first_file bytes same content = subst (IsFile name bytes) (sym whole) (inl (same, content))

  pub later_file : (file.0 ≡ name → ⊥) → (bytes : List ℕ) → IsFile name bytes (between 1 (length files) files) ↔ IsFile name bytes files
  later_file other bytes = (
    λ later. subst (IsFile name bytes) (sym whole) (inr (other, later)),
    λ here. behind (subst (IsFile name bytes) whole here),
  )
    where
      behind : IsFile name bytes (file ∷ between 1 (length files) files) → IsFile name bytes (between 1 (length files) files)
      behind (inl first) = absurd (other first.0)
      behind (inr later) = later.1

pub none_here : (name : List ℕ) (files : List (List ℕ × List ℕ)) → length files < 1 → (bytes : List ℕ) → IsFile name bytes files → ⊥
none_here name [] lt bytes file = file
none_here name (f ∷ files) lt bytes file = omega (arith, lt)

pub same_file : (name called bytes : List ℕ) (files listed : List (List ℕ × List ℕ)) → called ≡ name → listed ≡ files → IsFile called bytes listed → IsFile name bytes files
same_file name called bytes files listed is_name is_files file = subst (λ n. IsFile n bytes files) is_name (subst (λ l. IsFile called bytes l) is_files file)
