-- A set of numbers as the code keeps it.
use Rattle.std.proofs.Common.{◌≡◌, ℕ, Bool, true, false, cond, ◌||◌, [], ◌∷◌, refl, sym, ap, ◌∙◌}
use Rattle.std.specs.Prelude.{nat_eq}
use Rattle.std.specs.Ordering.{nat_cmp, eq_by_cmp}
use Rattle.std.specs.Cmp.{nat_cmp_total, eq_by_cmp_equiv}
use Rattle.std.specs.BTreeSet as tree
use Rattle.std.specs.BTreeSet.{BTreeSet}
use Rattle.std.specs.FinSet as set

cond-true : (a b : Bool) → cond a true b ≡ (a || b)
cond-true true b = refl
cond-true false b = refl

pub contains_is : (s : BTreeSet ℕ) (q : ℕ) → set.contains (set.from_list {R = nat_cmp} s.keys) q ≡ tree.contains nat_cmp s q
contains_is s q = set.contains-from_list nat_cmp_total s.keys q

pub insert_is : (old new : BTreeSet ℕ) (k : ℕ) → ((q : ℕ) → tree.contains nat_cmp new q ≡ cond (eq_by_cmp nat_cmp k q) true (tree.contains nat_cmp old q))
    → set.from_list {R = nat_cmp} new.keys ≡ set.insert (set.from_list old.keys) k
insert_is old new k at =
    set.same_set nat_cmp_total set.nat_cmp-IsAntisymmetric _ _
    (λ q. contains_is new q ∙ at q ∙ cond-true (eq_by_cmp nat_cmp k q) (tree.contains nat_cmp old q) ∙ ap (λ b. b || tree.contains nat_cmp old q) ((eq_by_cmp_equiv nat_cmp_total).symm k q)
    ∙ ap (λ b. eq_by_cmp nat_cmp q k || b) (sym (contains_is old q)) ∙ sym (set.contains-insert nat_cmp_total _ k q))

or_false : (b : Bool) → (b || false) ≡ b
or_false true = refl
or_false false = refl

-- one number more
pub one_more : (s : set.FinSet nat_cmp) (k q : ℕ) → (nat_eq k q || set.contains s q) ≡ set.contains (set.insert s k) q
one_more s k q =
    let same : nat_eq k q ≡ eq_by_cmp nat_cmp q k =
    sym (or_false (nat_eq k q)) ∙ sym (set.contains-from_list_nat (k ∷ []) q) ∙ set.contains-from_list nat_cmp_total (k ∷ []) q ∙ or_false (eq_by_cmp nat_cmp q k) in
    ap (λ b. b || set.contains s q) same ∙ sym (set.contains-insert nat_cmp_total s k q)
