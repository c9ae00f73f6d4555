-- A list is a merge of what it has of each of some numbers, where these account for all of it.
use Rattle.std.proofs.Common.{◌≡◌, ◌≢◌, ◌⊎◌, ℕ, zero, suc, ◌+◌, ◌≤◌, ◌==◌, List, [], ◌∷◌, ◌++◌, length, map, refl, sym, ap, ◌∙◌, subst, ⊎_elim, inl, inr, arith, eq-eqb, ne_eqb, cond}
use Rattle.std.specs.List.{AllByRecursion}
use mathlib.Core.Logic.{dite}
use native.Mathlib.Decide.{ℕ_discrete}
use Rattle.fix_outbox.specs.declared.queue.Item.{Item}
use Rattle.fix_outbox.specs.Queue.{of, total, AreApart}
use Rattle.fix_outbox.specs.Merge.{Merge, all_empty, from_one}

abbrev parts_of : List ℕ → List Item → List (List Item)
parts_of ns xs = map (λ i. of i xs) ns

abbrev size_of : List ℕ → List Item → ℕ
size_of ns xs = total (λ i. length (of i xs)) ns

-- a number stands among these, or all are others
abbrev Splits : ℕ → List ℕ → Type 0
Splits k ns = (before : List ℕ) × (after : List ℕ) × (ns ≡ before ++ k ∷ after)

find : (k : ℕ) (ns : List ℕ) → Splits k ns ⊎ AllByRecursion (λ m. m ≡ k → ⊥) ns
find k [] = inr tt
find k (n ∷ ns) = dite (ℕ_discrete n k)
    (λ e. inl ([], ns, ap (λ m. m ∷ ns) e))
    (λ other. ⊎_elim (λ (s : Splits k ns). inl (n ∷ s.0, s.1, ap (λ l. n ∷ l) s.2)) (λ none_there. inr (other, none_there)) (find k ns))

of_first : (k : ℕ) (x : Item) (xs : List Item) → x.sender ≡ k → of k (x ∷ xs) ≡ x ∷ of k xs
of_first k x xs e = ap (λ b. cond b (x ∷ of k xs) (of k xs)) (eq-eqb x.sender k e)

of_rest : (k : ℕ) (x : Item) (xs : List Item) → x.sender ≢ k → of k (x ∷ xs) ≡ of k xs
of_rest k x xs e = ap (λ b. cond b (x ∷ of k xs) (of k xs)) (ne_eqb x.sender k e)

-- an item of none of these numbers
parts_same : (x : Item) (xs : List Item) (ns : List ℕ) → AllByRecursion (λ m. m ≡ x.sender → ⊥) ns → parts_of ns (x ∷ xs) ≡ parts_of ns xs
parts_same x xs [] away = refl
parts_same x xs (n ∷ ns) away = ap (λ l. l ∷ parts_of ns (x ∷ xs)) (of_rest n x xs (λ e. away.0 (sym e))) ∙ ap (λ ls. of n xs ∷ ls) (parts_same x xs ns away.1)

size_same : (x : Item) (xs : List Item) (ns : List ℕ) → AllByRecursion (λ m. m ≡ x.sender → ⊥) ns → size_of ns (x ∷ xs) ≡ size_of ns xs
size_same x xs [] away = refl
size_same x xs (n ∷ ns) away =
    let first = ap (λ (l : List Item). length l) (of_rest n x xs (λ e. away.0 (sym e))) in
    let more = size_same x xs ns away.1 in
    omega arith

apart_before : (k : ℕ) (before after : List ℕ) → AreApart (before ++ k ∷ after) → AllByRecursion (λ m. m ≡ k → ⊥) before
apart_before k [] after apart = tt
apart_before k (n ∷ before) after apart = ((λ e. among before apart.0 (sym e)), apart_before k before after apart.1)
  where
    among : (ms : List ℕ) → AllByRecursion (λ m. m ≡ n → ⊥) (ms ++ k ∷ after) → k ≡ n → ⊥
    among [] all = all.0
    among (m ∷ ms) all = among ms all.1

apart_after : (k : ℕ) (before after : List ℕ) → AreApart (before ++ k ∷ after) → AllByRecursion (λ m. m ≡ k → ⊥) after
apart_after k [] after apart = apart.0
apart_after k (n ∷ before) after apart = apart_after k before after apart.1

parts_at : (x : Item) (xs : List Item) (before after : List ℕ) → AllByRecursion (λ m. m ≡ x.sender → ⊥) before → AllByRecursion (λ m. m ≡ x.sender → ⊥) after
    → parts_of (before ++ x.sender ∷ after) (x ∷ xs) ≡ parts_of before xs ++ (x ∷ of x.sender xs) ∷ parts_of after xs
parts_at x xs [] after early late = ap (λ l. l ∷ parts_of after (x ∷ xs)) (of_first x.sender x xs refl) ∙ ap (λ ls. (x ∷ of x.sender xs) ∷ ls) (parts_same x xs after late)
parts_at x xs (n ∷ before) after early late = ap (λ l. l ∷ parts_of (before ++ x.sender ∷ after) (x ∷ xs)) (of_rest n x xs (λ e. early.0 (sym e))) ∙ ap (λ ls. of n xs ∷ ls) (parts_at x xs before after early.1 late)

parts_with : (xs : List Item) (k : ℕ) (before after : List ℕ) → parts_of (before ++ k ∷ after) xs ≡ parts_of before xs ++ of k xs ∷ parts_of after xs
parts_with xs k [] after = refl
parts_with xs k (n ∷ before) after = ap (λ ls. of n xs ∷ ls) (parts_with xs k before after)

size_at : (x : Item) (xs : List Item) (before after : List ℕ) → AllByRecursion (λ m. m ≡ x.sender → ⊥) before → AllByRecursion (λ m. m ≡ x.sender → ⊥) after
    → size_of (before ++ x.sender ∷ after) (x ∷ xs) ≡ size_of (before ++ x.sender ∷ after) xs + 1
size_at x xs [] after early late =
    let first = ap (λ (l : List Item). length l) (of_first x.sender x xs refl) in
    let more = size_same x xs after late in
    omega arith
size_at x xs (n ∷ before) after early late =
    let first = ap (λ (l : List Item). length l) (of_rest n x xs (λ e. early.0 (sym e))) in
    let more = size_at x xs before after early.1 late in
    omega arith

none_of : (ns : List ℕ) → AllByRecursion (λ (l : List Item). l ≡ []) (parts_of ns [])
none_of [] = tt
none_of (n ∷ ns) = (refl, none_of ns)

size_none : (ns : List ℕ) → size_of ns [] ≡ 0
size_none [] = refl
size_none (n ∷ ns) = let more = size_none ns in omega arith

abbrev Goes : List ℕ → List Item → Type 0
Goes ns all = (size_of ns all ≤ length all) × (size_of ns all ≡ length all → Merge (parts_of ns all) all)

goes_from : (x : Item) (xs : List Item) (before after : List ℕ) → AreApart (before ++ x.sender ∷ after) → Goes (before ++ x.sender ∷ after) xs → Goes (before ++ x.sender ∷ after) (x ∷ xs)
goes_from x xs before after apart rest =
    let early = apart_before x.sender before after apart in
    let late = apart_after x.sender before after apart in
    let size = size_at x xs before after early late in
    let few = rest.0 in (
      (omega arith),
      (λ full. subst (λ ls. Merge ls (x ∷ xs)) (sym (parts_at x xs before after early late))
          (from_one (parts_of before xs) (parts_of after xs) x (of x.sender xs) xs
          (subst (λ ls. Merge ls xs) (parts_with xs x.sender before after) (rest.1 (omega arith))))),
    )

goes : (ns : List ℕ) (all : List Item) → AreApart ns → Goes ns all
goes ns [] apart = let size = size_none ns in ((omega arith), (λ _. all_empty (parts_of ns []) (none_of ns)))
goes ns (x ∷ xs) apart = ⊎_elim
    (λ (s : Splits x.sender ns). subst (λ ms. Goes ms (x ∷ xs)) (sym s.2) (goes_from x xs s.0 s.1 (subst AreApart s.2 apart) (subst (λ ms. Goes ms xs) s.2 (goes ns xs apart))))
    (λ away.
    let size = size_same x xs ns away in
    let few = (goes ns xs apart).0 in
    ((omega arith), (λ full. absurd (omega arith))))
    (find x.sender ns)

pub is_merge : (ns : List ℕ) (all : List Item) → AreApart ns → size_of ns all ≡ length all → Merge (parts_of ns all) all
is_merge ns all apart full = (goes ns all apart).1 full
