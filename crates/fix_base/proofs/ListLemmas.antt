-- What the definitions' words about lists have for laws.
use Rattle.std.proofs.Common.{◌≡◌, ◌⊎◌, inl, inr, ◌<◌, ◌≤◌, List, [], ◌∷◌, ◌++◌, length, length-append, Some, refl, sym, ap, ◌∙◌, subst, append_assoc, arith}
use Rattle.std.proofs.lemmas.List.{append-nil}
use Rattle.fix_base.specs.Lists.{Among, here, there, IsPrefixOf}

pub Among-append_left : {A : Type 0} {x : A} {xs : List A} (ys : List A) → Among x xs → Among x (xs ++ ys)
Among-append_left ys here = here
Among-append_left ys (there m) = there (Among-append_left ys m)

pub Among-append_right : {A : Type 0} {x : A} (xs : List A) {ys : List A} → Among x ys → Among x (xs ++ ys)
Among-append_right [] m = m
Among-append_right (y ∷ xs) m = there (Among-append_right xs m)

pub Among-append_cases : {A : Type 0} {x : A} (xs ys : List A) → Among x (xs ++ ys) → Among x xs ⊎ Among x ys
Among-append_cases [] ys m = inr m
Among-append_cases (y ∷ xs) ys here = inl here
Among-append_cases (y ∷ xs) ys (there m) = elim (Among-append_cases xs ys m) [ inl a ↦ inl (there a) | inr b ↦ inr b ]

pub Among-cons_cases : {A : Type 0} {x y : A} {xs : List A} → Among x (y ∷ xs) → (x ≡ y) ⊎ Among x xs
Among-cons_cases here = inl refl
Among-cons_cases (there m) = inr m

pub Among-middle : {A : Type 0} (x : A) (xs ys : List A) → Among x (xs ++ x ∷ ys)
Among-middle x xs ys = Among-append_right xs here

pub Among-prefix : {A : Type 0} {x : A} {xs ys : List A} → IsPrefixOf xs ys → Among x xs → Among x ys
Among-prefix {x = x} {xs = xs} p m = subst (λ zs. Among x zs) (sym p.is) (Among-append_left p.rest m)

pub prefix_refl : {A : Type 0} (xs : List A) → IsPrefixOf xs xs
prefix_refl xs = record { rest = []; is = sym (append-nil xs) }

pub prefix_of_nothing : {A : Type 0} (xs : List A) → IsPrefixOf [] xs
prefix_of_nothing xs = record { rest = xs; is = refl }

pub prefix_append : {A : Type 0} (xs ys : List A) → IsPrefixOf xs (xs ++ ys)
prefix_append xs ys = record { rest = ys; is = refl }

pub prefix_trans : {A : Type 0} {xs ys zs : List A} → IsPrefixOf xs ys → IsPrefixOf ys zs → IsPrefixOf xs zs
prefix_trans {xs = xs} p q = record { rest = p.rest ++ q.rest; is = q.is ∙ ap (λ w. w ++ q.rest) p.is ∙ append_assoc xs p.rest q.rest }

-- behind the same front
pub prefix_under : {A : Type 0} (ws : List A) {xs ys : List A} → IsPrefixOf xs ys → IsPrefixOf (ws ++ xs) (ws ++ ys)
prefix_under ws {xs = xs} p = record { rest = p.rest; is = ap (λ z. ws ++ z) p.is ∙ sym (append_assoc ws xs p.rest) }

-- the front of a prefix
pub prefix_front : {A : Type 0} (xs ys : List A) {zs : List A} → IsPrefixOf (xs ++ ys) zs → IsPrefixOf xs zs
prefix_front xs ys p = record { rest = ys ++ p.rest; is = p.is ∙ append_assoc xs ys p.rest }

pub prefix-append : {A : Type 0} {xs ys : List A} (zs : List A) → IsPrefixOf xs ys → IsPrefixOf xs (ys ++ zs)
prefix-append {ys = ys} zs p = prefix_trans p (prefix_append ys zs)

-- a list in two parts has one front of a length
pub fronts_same : {A : Type 0} (xs xs' ys ys' : List A) → xs ++ ys ≡ xs' ++ ys' → length xs ≡ length xs' → (xs ≡ xs') × (ys ≡ ys')
fronts_same [] [] ys ys' e l = (refl, e)
fronts_same [] (x' ∷ xs') ys ys' e l = absurd (omega (arith, l))
fronts_same (x ∷ xs) [] ys ys' e l = absurd (omega (arith, l))
fronts_same (x ∷ xs) (x' ∷ xs') ys ys' e l =
    let tails : xs ++ ys ≡ xs' ++ ys' = cc in
    let heads : x ≡ x' = cc in
    let others = fronts_same xs xs' ys ys' tails (omega (arith, l)) in
    let fronts : xs ≡ xs' = others.0 in
    (cc, others.1)

-- what stands in a list at a place among its first ones stands in these
pub front_splits : {A : Type 0} (xs xs' ys ys' : List A) (y : A) → xs ++ ys ≡ xs' ++ y ∷ ys' → length xs' < length xs → (more : List A) × (xs ≡ xs' ++ y ∷ more)
front_splits [] xs' ys ys' y e l = absurd (omega (arith, l))
front_splits (x ∷ xs) [] ys ys' y e l = let same : x ≡ y = cc in (xs, ap (λ z. z ∷ xs) same)
front_splits (x ∷ xs) (x' ∷ xs') ys ys' y e l =
    let tails : xs ++ ys ≡ xs' ++ y ∷ ys' = cc in
    let heads : x ≡ x' = cc in
    let later = front_splits xs xs' ys ys' y tails (omega (arith, l)) in
    let fronts : xs ≡ xs' ++ y ∷ later.0 = later.1 in
    (later.0, cc)

pub some_same : {A : Type 0} (x y : A) → Some x ≡ Some y → x ≡ y
some_same x y e = cc

pub length-prefix : {A : Type 0} {xs ys : List A} → IsPrefixOf xs ys → length xs ≤ length ys
length-prefix {A = A} {xs = xs} p = let l = ap (λ (w : List A). length w) p.is in omega (arith, l, length-append xs p.rest)
