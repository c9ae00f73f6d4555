-- Sums over the views.
use Rattle.std.proofs.Common.{◌≡◌, ℕ, zero, suc, ◌+◌, ◌≤◌, List, [], ◌∷◌, ◌++◌, length, set, true, false, true≢false, Bool, refl, sym, ap, ◌∙◌, arith}
use mathlib.Core.Option.{Option, none, some, some-ne-none, some-injective}
use lib.ListN.{get_elem?}
use Rattle.fix_outbox.specs.declared.queue.Ended.{Ended}
use Rattle.fix_outbox.specs.declared.queue.Part.{Part}
use Rattle.fix_outbox.specs.Queue.{count_posted, either, items_of, senders_of, total}

pub total_set : {A : Type 0} (f : A → ℕ) (xs : List A) (i : ℕ) (v w : A) → get_elem? xs i ≡ some v → f v + total f (set xs i w) ≡ f w + total f xs
total_set f [] i v w e = absurd (some-ne-none v (sym e))
total_set f (x ∷ xs) zero v w e = let same : f x ≡ f v = ap f (some-injective x v e) in omega arith
total_set f (x ∷ xs) (suc i) v w e = let more = total_set f xs i v w e in omega arith

pub total_append_one : {A : Type 0} (f : A → ℕ) (xs : List A) (x : A) → total f (xs ++ x ∷ []) ≡ total f xs + f x
total_append_one f [] x = omega arith
total_append_one f (y ∷ xs) x = let more = total_append_one f xs x in omega arith

-- one of them is at most the sum
at_most : {A : Type 0} (f : A → ℕ) (xs : List A) (i : ℕ) (v : A) → get_elem? xs i ≡ some v → f v ≤ total f xs
at_most f [] i v e = absurd (some-ne-none v (sym e))
at_most f (x ∷ xs) zero v e = let same : f x ≡ f v = ap f (some-injective x v e) in omega arith
at_most f (x ∷ xs) (suc i) v e = let more = at_most f xs i v e in omega arith

-- what is 0 by f is 0 by g
all_nought : {A : Type 0} (f g : A → ℕ) → ((x : A) → f x ≡ 0 → g x ≡ 0) → (xs : List A) → total f xs ≡ 0 → total g xs ≡ 0
all_nought f g both [] e = refl
all_nought f g both (x ∷ xs) e =
    let first = both x (omega arith) in
    let more = all_nought f g both xs (omega arith) in
    omega arith

pub all_of_one : {A : Type 0} (f g : A → ℕ) → ((x : A) → f x ≡ 0 → g x ≡ 0) → (xs : List A) (i : ℕ) (v : A) → get_elem? xs i ≡ some v → total f xs ≡ f v → total g xs ≡ g v
all_of_one f g both [] i v at e = absurd (some-ne-none v (sym at))
all_of_one f g both (x ∷ xs) zero v at e =
    let same : f x ≡ f v = ap f (some-injective x v at) in
    let too : g x ≡ g v = ap g (some-injective x v at) in
    let more = all_nought f g both xs (omega arith) in
    omega arith
all_of_one f g both (x ∷ xs) (suc i) v at e =
    let some_there = at_most f xs i v at in
    let first = both x (omega arith) in
    let more = all_of_one f g both xs i v at (omega arith) in
    omega arith

pub items_of_taker : (v : Part) → v.takes ≡ true → items_of v ≡ count_posted v.known
items_of_taker v may = ap (λ b. either b v.sends (count_posted v.known) (length v.list)) may

pub senders_of_taker : (v : Part) → v.takes ≡ true → senders_of v ≡ length v.known
senders_of_taker v may = ap (λ b. either b v.sends (length v.known) 1) may

pub items_of_sender : (v : Part) → v.takes ≡ false → v.sends ≡ true → items_of v ≡ length v.list
items_of_sender v none_taken sends = ap (λ b. either b v.sends (count_posted v.known) (length v.list)) none_taken ∙ ap (λ b. either false b (count_posted v.known) (length v.list)) sends

pub senders_of_sender : (v : Part) → v.takes ≡ false → v.sends ≡ true → senders_of v ≡ 1
senders_of_sender v none_taken sends = ap (λ b. either b v.sends (length v.known) 1) none_taken ∙ ap (λ b. either false b (length v.known) 1) sends

nothing : (takes sends : Bool) (known : List Ended) (list : ℕ) → either takes sends (length known) 1 ≡ 0 → either takes sends (count_posted known) list ≡ 0
nothing true sends [] list e = refl
nothing true sends (x ∷ xs) list e = absurd (omega arith)
nothing false true known list e = absurd (omega arith)
nothing false false known list e = refl

-- a view that accounts for no sender accounts for no item
pub idle_holds_nothing : (v : Part) → senders_of v ≡ 0 → items_of v ≡ 0
idle_holds_nothing v e = nothing v.takes v.sends v.known (length v.list) e
