-- Names in order, each once.
use Rattle.std.proofs.Common.{◌≡◌, ℕ, zero, suc, ◌<◌, true, false, List, [], ◌∷◌, ◌++◌, length, get_or, bytes_eq, Option, Some, None, refl, sym, ap, ◌∙◌, subst, arith, inl, inr, add-one}
use denote.Ref.{Bor}
use Rattle.std.specs.Prelude.{Contains, IsPermutation}
use Rattle.std.specs.List.Sorted.{IsSorted}
use Rattle.std.specs.Cmp.Lexicographic.{slice_cmp}
use Rattle.std.specs.Ordering.{nat_cmp, is_lt, is_eq, ordering_reverse}
use Rattle.std.specs.declared.cmp.Ordering.{Ordering}
use Rattle.std.specs.declared.cmp.Ordering.TheVariants.{Less, Equal, Greater}
use Rattle.std.proofs.lemmas.Bool.{cases_Bool}
use Rattle.std.proofs.lemmas.Cmp.{nat_list_cmp_total}
use Rattle.std.proofs.lemmas.Map.Text.{is_eq-slice_cmp}
use Rattle.std.proofs.lemmas.Slice.Eq.{bytes_eq-Decides}
use Rattle.std.proofs.lemmas.List.Sorted.{Contains-permutation, IsPermutation-map, IsPermutation-sym}
use Rattle.fix_base.specs.Lists.{Among, here, there}
use Rattle.fix_base.proofs.ListLemmas.{Among-append_left, Among-append_right, Among-append_cases}
use Rattle.fix_settings.specs.Lent.{names_read}
use Rattle.fix_settings.specs.Reading.{IsAscending, AreInOrder, is_last, distinct}

abbrev Sorted : List (List ℕ) → Type 0
Sorted [] = Unit {0}
Sorted (x ∷ []) = Unit {0}
Sorted (x ∷ y ∷ ys) = (is_lt (slice_cmp nat_cmp y x) ≡ false) × Sorted (y ∷ ys)

abbrev borrowed : Bor (List ℕ) → Bor (List ℕ) → Ordering
borrowed x y = slice_cmp nat_cmp x.now y.now

sorted_tail : (x : Bor (List ℕ)) (xs : List (Bor (List ℕ))) → IsSorted borrowed (x ∷ xs) → IsSorted borrowed xs
sorted_tail x xs h = λ k d low high. rw add-one (let e = h (suc k) d (omega arith) (omega arith) in rw add-one at e)

sorted_names : (xs : List (Bor (List ℕ))) → IsSorted borrowed xs → Sorted (names_read xs)
sorted_names [] h = tt
sorted_names (x ∷ []) h = tt
sorted_names (x ∷ y ∷ ys) h = (h 0 x (omega arith) (omega arith), sorted_names (y ∷ ys) (sorted_tail x (y ∷ ys) h))

-- not after and not the same: before
before_other : (o p : Ordering) → p ≡ ordering_reverse o → is_lt o ≡ false → is_eq o ≡ false → p ≡ Less
before_other Less p r l e = cc
before_other Equal p r l e = cc
before_other Greater p r l e = r

before : (k x : List ℕ) → is_lt (slice_cmp nat_cmp x k) ≡ false → bytes_eq k x ≡ false → slice_cmp nat_cmp k x ≡ Less
before k x l ne = before_other (slice_cmp nat_cmp x k) (slice_cmp nat_cmp k x) (nat_list_cmp_total.antisymm k x) l
    (other (slice_cmp nat_cmp k x) (slice_cmp nat_cmp x k) (nat_list_cmp_total.antisymm k x) (is_eq-slice_cmp k x ∙ ne))
  where
    other : (o p : Ordering) → o ≡ ordering_reverse p → is_eq o ≡ false → is_eq p ≡ false
    other o Less r e = refl
    other o Equal r e = sym (ap is_eq r) ∙ e
    other o Greater r e = refl

same_bytes : (k x : List ℕ) → bytes_eq k x ≡ true → k ≡ x
same_bytes k x h = let d = bytes_eq-Decides k x in d.0 h

distinct_ascends : (k : List ℕ) (xs : List (List ℕ)) → Sorted (k ∷ xs) → IsAscending (k ∷ distinct (Some k) xs)
distinct_ascends k [] h = tt
distinct_ascends k (x ∷ xs) h = elim (cases_Bool (bytes_eq k x)) [
  | inl t ↦ (let s : Sorted (k ∷ xs) = subst (λ y. Sorted (y ∷ xs)) (sym (same_bytes k x t)) h.1 in
      rw t (distinct_ascends k xs s))
  | inr f ↦ rw f (before k x h.0 f, distinct_ascends x xs h.1)
]

distinct_each : (last : Option (List ℕ)) (xs : List (List ℕ)) (n : List ℕ) → Among n (distinct last xs) → Among n xs
distinct_each last [] n m = m
distinct_each last (x ∷ xs) n m = elim (cases_Bool (is_last last x)) [
  | inl t ↦ there (distinct_each last xs n (rw t at m))
  | inr f ↦ first x xs n (λ a. distinct_each (Some x) xs n a) (rw f at m)
]
  where
    first : (x : List ℕ) (xs : List (List ℕ)) (n : List ℕ) → (Among n (distinct (Some x) xs) → Among n xs) → Among n (x ∷ distinct (Some x) xs) → Among n (x ∷ xs)
    first x xs n f here = here
    first x xs n f (there a) = there (f a)

distinct_all : (k : List ℕ) (xs : List (List ℕ)) (n : List ℕ) → Among n (k ∷ xs) → Among n (k ∷ distinct (Some k) xs)
distinct_all k xs n here = here
distinct_all k [] n (there a) = there a
distinct_all k (x ∷ xs) n (there a) = elim (cases_Bool (bytes_eq k x)) [
  | inl t ↦ (let b : Among n (k ∷ xs) = subst (λ y. Among n (y ∷ xs)) (sym (same_bytes k x t)) a in rw t (distinct_all k xs n b))
  | inr f ↦ rw f (there (distinct_all x xs n a))
]

contains_among : {A : Type 0} (xs : List A) (x : A) (k : ℕ) → k < length xs → get_or xs k x ≡ x → Among x xs
contains_among [] x k lt e = absurd (omega arith)
contains_among (y ∷ ys) x zero lt e = subst (λ z. Among z (y ∷ ys)) e here
contains_among (y ∷ ys) x (suc k) lt e = there (contains_among ys x k (omega arith) e)

among_contains : {A : Type 0} {x : A} {xs : List A} → Among x xs → Contains xs x
among_contains (here {xs = xs}) = (0, (omega arith), refl)
among_contains (there {xs = xs} m) = let c = among_contains m in (suc c.0, omega (arith, c.1), c.2)

moved : (xs ys : List (List ℕ)) (n : List ℕ) → IsPermutation xs ys → Among n xs → Among n ys
moved xs ys n p m = let c = Contains-permutation xs ys n p (among_contains m) in contains_among ys n c.0 c.1 c.2

distinct_in_order : (names sorted : List (List ℕ)) → Sorted sorted → IsPermutation names sorted → AreInOrder names (distinct None sorted)
distinct_in_order names [] s p = record { ascending = tt; each = λ n m. absurd (elim m [ ]); all = λ n m. moved names [] n p m }
distinct_in_order names (x ∷ xs) s p = record {
  ascending = distinct_ascends x xs s;
  each = λ n m. moved (x ∷ xs) names n (IsPermutation-sym names (x ∷ xs) p) (distinct_each None (x ∷ xs) n m);
  all = λ n m. distinct_all x xs n (moved names (x ∷ xs) n p m);
}

pub sorted_in_order : (names sorted : List (Bor (List ℕ))) → IsSorted borrowed sorted → IsPermutation names sorted → AreInOrder (names_read names) (distinct None (names_read sorted))
sorted_in_order names sorted s p = distinct_in_order (names_read names) (names_read sorted) (sorted_names sorted s) (IsPermutation-map (λ n. n.now) names sorted p)

-- names in order, in place of some of those that are put in order
pub with_ordered : (names ordered more made : List (List ℕ)) → AreInOrder names ordered → AreInOrder (ordered ++ more) made → AreInOrder (names ++ more) made
with_ordered names ordered more made is h = record {
  ascending = h.ascending;
  each = λ n m. elim (Among-append_cases ordered more (h.each n m)) [
    | inl a ↦ Among-append_left more (is.each n a)
    | inr b ↦ Among-append_right names b
  ];
  all = λ n m. elim (Among-append_cases names more m) [
    | inl a ↦ h.all n (Among-append_left more (is.all n a))
    | inr b ↦ h.all n (Among-append_right ordered b)
  ];
}
