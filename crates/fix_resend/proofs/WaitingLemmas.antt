-- Frames that wait, as the code keeps them and as contracts see them.
use Rattle.std.proofs.Common.{◌≡◌, lit≤, inl, inr, ◌<◌, ◌≤◌, Ordering, Less, Equal, Greater, ℕ, suc, ◌+◌, ◌-◌, nat_cmp, nat_le, List, [], ◌∷◌, length, true, false, Option, Some, None, is_some, IsSome, cond, if◌then◌else◌, refl, sym, ap, subst, ◌∙◌, arith}
use Rattle.std.proofs.lemmas.Bool.Decides.{nat_tests, leb_tells}
use Rattle.std.specs.Ordering.{eq_by_cmp, is_eq}
use Rattle.std.specs.Cmp.{nat_cmp_total, eq_by_cmp_equiv}
use Rattle.std.specs.FinMap as map
use Rattle.std.specs.FinMap.{nat_cmp-IsAntisymmetric}
use Rattle.std.specs.FinMap.Entries.{by_order}
use Rattle.std.specs.BTreeMap as tree
use Rattle.std.specs.BTreeMap.{BTreeMap}
use Rattle.std.specs.Map.{lookup}
use Rattle.fix_resend.specs.Waiting.{Waiting, bytes_in, bytes_of, IsHeld, IsBounded, IsFull, from_number, StandsFrom, DropsBelow}

-- ---- the code's table, as the map

-- the map of these entries
abbrev pub waiting_of : List (ℕ × List ℕ) → Waiting
waiting_of es = map.from_entries es

found_is : (q : ℕ) (es : List (ℕ × List ℕ)) → map.find nat_cmp q es ≡ lookup (eq_by_cmp nat_cmp q) es
found_is q [] = refl
found_is q (e ∷ es) = ap (cond (eq_by_cmp nat_cmp q e.0) (Some e.1)) (found_is q es)

pub get_is : (m : BTreeMap ℕ (List ℕ)) (q : ℕ) → map.get (waiting_of m.entries) q ≡ tree.get nat_cmp m q
get_is m q = map.get-from_entries nat_cmp_total m.entries q ∙ found_is q m.entries

same_map : (m n : Waiting) → ((q : ℕ) → map.get m q ≡ map.get n q) → m ≡ n
same_map m n is = map.same_map nat_cmp_total nat_cmp-IsAntisymmetric m n is

turned : (k q : ℕ) → eq_by_cmp nat_cmp k q ≡ eq_by_cmp nat_cmp q k
turned k q = (eq_by_cmp_equiv nat_cmp_total).symm k q

pub insert_is : (old new : BTreeMap ℕ (List ℕ)) (k : ℕ) (v : List ℕ) → ((q : ℕ) → tree.get nat_cmp new q ≡ cond (eq_by_cmp nat_cmp k q) (Some v) (tree.get nat_cmp old q)) → waiting_of new.entries ≡ map.insert (waiting_of old.entries) k v
insert_is old new k v at =
    same_map _ _ (λ q. get_is new q ∙ at q ∙ ap (λ b. cond b (Some v) (tree.get nat_cmp old q)) (turned k q)
    ∙ ap (cond (eq_by_cmp nat_cmp q k) (Some v)) (sym (get_is old q)) ∙ sym (map.get-insert nat_cmp_total _ k v q))

pub remove_is : (old new : BTreeMap ℕ (List ℕ)) (k : ℕ) → ((q : ℕ) → tree.get nat_cmp new q ≡ cond (eq_by_cmp nat_cmp k q) None (tree.get nat_cmp old q)) → waiting_of new.entries ≡ map.remove (waiting_of old.entries) k
remove_is old new k at =
    same_map _ _ (λ q. get_is new q ∙ at q ∙ ap (λ b. cond b None (tree.get nat_cmp old q)) (turned k q)
    ∙ ap (cond (eq_by_cmp nat_cmp q k) None) (sym (get_is old q)) ∙ sym (map.get-remove nat_cmp_total _ k q))

-- ---- one key

-- the test of keys is that they're the same
pub tied : (q k : ℕ) → eq_by_cmp nat_cmp q k ≡ true → q ≡ k
tied q k e = nat_cmp-IsAntisymmetric q k (is_equal (nat_cmp q k) e)
  where
    is_equal : (r : Ordering) → is_eq r ≡ true → r ≡ Equal
    is_equal Less e = cc
    is_equal Equal e = refl
    is_equal Greater e = cc

apart : (q k : ℕ) → k < q → eq_by_cmp nat_cmp q k ≡ false
apart q k less = elim (eq_by_cmp nat_cmp q k) as (λ t. eq_by_cmp nat_cmp q k ≡ t → t ≡ false) [
  | true ↦ λ e. absurd (omega (arith, tied q k e, less))
  | false ↦ λ e. refl
] refl

-- what isn't there needn't be removed
pub remove_none : (m : Waiting) (k : ℕ) → map.get m k ≡ None → map.remove m k ≡ m
remove_none m k none = same_map _ _ (λ q. map.get-remove nat_cmp_total m k q ∙ at q)
  where
    at : (q : ℕ) → cond (eq_by_cmp nat_cmp q k) None (map.get m q) ≡ map.get m q
    at q = elim (eq_by_cmp nat_cmp q k) as (λ t. eq_by_cmp nat_cmp q k ≡ t → cond t None (map.get m q) ≡ map.get m q) [
      | true ↦ λ e. sym (ap (map.get m) (tied q k e) ∙ none)
      | false ↦ λ e. refl
    ] refl

-- what is removed may be put back
put_back : (m : Waiting) (k : ℕ) (v : List ℕ) → map.get m k ≡ Some v → map.insert (map.remove m k) k v ≡ m
put_back m k v some = same_map _ _ (λ q. map.get-insert nat_cmp_total _ k v q ∙ ap (cond (eq_by_cmp nat_cmp q k) (Some v)) (map.get-remove nat_cmp_total m k q) ∙ at q)
  where
    at : (q : ℕ) → cond (eq_by_cmp nat_cmp q k) (Some v) (cond (eq_by_cmp nat_cmp q k) None (map.get m q)) ≡ map.get m q
    at q = elim (eq_by_cmp nat_cmp q k) as (λ t. eq_by_cmp nat_cmp q k ≡ t → cond t (Some v) (cond t None (map.get m q)) ≡ map.get m q) [
      | true ↦ λ e. sym (ap (map.get m) (tied q k e) ∙ some)
      | false ↦ λ e. refl
    ] refl

pub gone : (m : Waiting) (k : ℕ) → map.get (map.remove m k) k ≡ None
gone m k = map.get-remove nat_cmp_total m k k ∙ ap (λ t. cond t None (map.get m k)) ((eq_by_cmp_equiv nat_cmp_total).refl k)

-- ---- bytes and frames

put_bytes : (k : ℕ) (v : List ℕ) (es : List (ℕ × List ℕ)) → map.find nat_cmp k es ≡ None → bytes_in (map.put nat_cmp k v es) ≡ length v + bytes_in es
put_bytes k v [] none = refl
put_bytes k v (e ∷ es) none =
    elim (nat_cmp k e.0) as (λ r. cond (is_eq r) (Some e.1) (map.find nat_cmp k es) ≡ None → bytes_in (by_order r ((k, v) ∷ e ∷ es) ((e.0, v) ∷ es) (e ∷ map.put nat_cmp k v es)) ≡ length v + (length e.1 + bytes_in es)) [
      | Less ↦ λ h. refl
      | Equal ↦ λ h. cc
      | Greater ↦ λ h. omega (arith, put_bytes k v es h)
    ] none

pub more_bytes : (m : Waiting) (k : ℕ) (v : List ℕ) → map.get m k ≡ None → bytes_of (map.insert m k v) ≡ length v + bytes_of m
more_bytes m k v none = ap bytes_in (map.entries-insert nat_cmp_total m k v) ∙ put_bytes k v (map.entries m) (sym (map.get-entries m k) ∙ none)

pub more_frames : (m : Waiting) (k : ℕ) (v : List ℕ) → map.get m k ≡ None → map.len (map.insert m k v) ≡ suc (map.len m)
more_frames m k v none =
    let e : map.len m + 1 ≡ suc (map.len m) = omega arith in
    map.len-insert nat_cmp_total m k v ∙ ap (λ o. cond (is_some o) (map.len m) (map.len m + 1)) none ∙ e

pub fewer_bytes : (m : Waiting) (k : ℕ) (v : List ℕ) → map.get m k ≡ Some v → bytes_of m ≡ length v + bytes_of (map.remove m k)
fewer_bytes m k v some = ap bytes_of (sym (put_back m k v some)) ∙ more_bytes (map.remove m k) k v (gone m k)

pub fewer_frames : (m : Waiting) (k : ℕ) (v : List ℕ) → map.get m k ≡ Some v → map.len m ≡ suc (map.len (map.remove m k))
fewer_frames m k v some = ap map.len (sym (put_back m k v some)) ∙ more_frames (map.remove m k) k v (gone m k)

-- ---- what is kept beside the frames

no_bytes : (es : List (ℕ × List ℕ)) → length es ≡ 0 → bytes_in es ≡ 0
no_bytes [] none = refl
no_bytes (e ∷ es) none = absurd (omega (arith, none))

none_bytes : bytes_of (waiting_of []) ≡ 0
none_bytes = no_bytes (map.entries (waiting_of [])) (sym (map.len-entries (waiting_of [])) ∙ map.len-empty nat_cmp (List ℕ))

pub held_new : IsHeld [] 0
held_new = record { counted = sym (map.len-empty nat_cmp (List ℕ)); summed = sym none_bytes; bounded = record { frames = subst (λ n. n ≤ 1024) (sym (map.len-empty nat_cmp (List ℕ))) (lit≤ tt); bytes = subst (λ n. n ≤ 16777216) (sym none_bytes) (lit≤ tt) } }

-- ---- those from a number on

pub from_fewer : (n k : ℕ) (m : Waiting) → k < n → from_number n (map.remove m k) ≡ from_number n m
from_fewer n k m below =
    same_map _ _ (λ q. map.get-retain_keys _ (λ x. nat_le n x) q (alike q) ∙ ap (λ o. cond (nat_le n q) o None) (map.get-remove nat_cmp_total m k q) ∙ at q ∙ sym (map.get-retain_keys m (λ x. nat_le n x) q (alike q)))
  where
    alike : (q x : ℕ) → nat_cmp q x ≡ Equal → nat_le n x ≡ nat_le n q
    alike q x e = ap (nat_le n) (sym (nat_cmp-IsAntisymmetric q x e))

    at : (q : ℕ) → cond (nat_le n q) (cond (eq_by_cmp nat_cmp q k) None (map.get m q)) None ≡ cond (nat_le n q) (map.get m q) None
    at q = elim (nat_le n q) as (λ t. nat_le n q ≡ t → cond t (cond (eq_by_cmp nat_cmp q k) None (map.get m q)) None ≡ cond t (map.get m q) None) [
      | true ↦ λ e. (let less : k < q = grind (arith, nat_tests, e, below) in ap (λ t. cond t None (map.get m q)) (apart q k less))
      | false ↦ λ e. refl
    ] refl

pub from_all : (n : ℕ) (m : Waiting) → StandsFrom n m → from_number n m ≡ m
from_all n m all = same_map _ _ (λ q. map.get-retain_keys m (λ x. nat_le n x) q (alike q) ∙ at q)
  where
    alike : (q x : ℕ) → nat_cmp q x ≡ Equal → nat_le n x ≡ nat_le n q
    alike q x e = ap (nat_le n) (sym (nat_cmp-IsAntisymmetric q x e))

    none : (o : Option (List ℕ)) → (IsSome o → ⊥) → None ≡ o
    none None never = refl
    none (Some v) never = absurd (never refl)

    at : (q : ℕ) → cond (nat_le n q) (map.get m q) None ≡ map.get m q
    at q = elim (nat_le n q) as (λ t. nat_le n q ≡ t → cond t (map.get m q) None ≡ map.get m q) [
      | true ↦ λ e. refl
      | false ↦ λ e. none (map.get m q) (λ some. (let above : n ≤ q = all q some in absurd (grind (arith, nat_tests, e, above))))
    ] refl

-- ---- what the functions of the table answer, as contracts see it

-- a look-up
pub seen_get : (m : BTreeMap ℕ (List ℕ)) (w : Waiting) (k q : ℕ) (o : Option (List ℕ)) → waiting_of m.entries ≡ w → q ≡ k → o ≡ tree.get nat_cmp m q → o ≡ map.get w k
seen_get m w k q o view key is = is ∙ sym (get_is m q) ∙ ap (map.get (waiting_of m.entries)) key ∙ ap (λ x. map.get x k) view

abbrev Removed : BTreeMap ℕ (List ℕ) → BTreeMap ℕ (List ℕ) → ℕ → Type 0
Removed old new q = (x : ℕ) → tree.get nat_cmp new x ≡ cond (eq_by_cmp nat_cmp q x) None (tree.get nat_cmp old x)

abbrev Inserted : BTreeMap ℕ (List ℕ) → BTreeMap ℕ (List ℕ) → ℕ → List ℕ → Type 0
Inserted old new q v = (x : ℕ) → tree.get nat_cmp new x ≡ cond (eq_by_cmp nat_cmp q x) (Some v) (tree.get nat_cmp old x)

pub seen_remove : (old new : BTreeMap ℕ (List ℕ)) (w : Waiting) (k q : ℕ) → waiting_of old.entries ≡ w → q ≡ k → Removed old new q → waiting_of new.entries ≡ map.remove w k
seen_remove old new w k q view key at = remove_is old new q at ∙ ap (map.remove (waiting_of old.entries)) key ∙ ap (λ x. map.remove x k) view

pub seen_insert : (old new : BTreeMap ℕ (List ℕ)) (w : Waiting) (k q : ℕ) (v : List ℕ) → waiting_of old.entries ≡ w → q ≡ k → Inserted old new q v → waiting_of new.entries ≡ map.insert w k v
seen_insert old new w k q v view key at = insert_is old new q v at ∙ ap (λ x. map.insert (waiting_of old.entries) x v) key ∙ ap (λ x. map.insert x k v) view

-- one frame less
pub held_less : (old new : BTreeMap ℕ (List ℕ)) (q : ℕ) (v : List ℕ) (bytes : ℕ) → IsHeld old.entries bytes → Some v ≡ tree.get nat_cmp old q → Removed old new q → length new.entries + 1 ≡ length old.entries → IsHeld new.entries (bytes - length v)
held_less old new q v bytes held some at size =
    let found = get_is old q ∙ sym some in
    let is = remove_is old new q at in
    let frames = fewer_frames (waiting_of old.entries) q v found in
    let sum = fewer_bytes (waiting_of old.entries) q v found in
    record {
      counted = let e : length new.entries ≡ map.len (map.remove (waiting_of old.entries) q) = omega (arith, size, frames, held.counted) in e ∙ sym (ap map.len is);
      summed = let e : bytes - length v ≡ bytes_of (map.remove (waiting_of old.entries) q) = omega (arith, sum, held.summed) in e ∙ sym (ap bytes_of is);
      bounded = subst IsBounded (sym is) (record { frames = omega (arith, frames, held.bounded.frames); bytes = omega (arith, sum, held.bounded.bytes) });
    }

pub held_room : (old : BTreeMap ℕ (List ℕ)) (q : ℕ) (v : List ℕ) (bytes : ℕ) → IsHeld old.entries bytes → Some v ≡ tree.get nat_cmp old q → length v ≤ bytes
held_room old q v bytes held some =
    let sum = fewer_bytes (waiting_of old.entries) q v (get_is old q ∙ sym some) in
    omega (arith, sum, held.summed)

-- one frame more, for which there is room
pub held_more : (old new : BTreeMap ℕ (List ℕ)) (w : Waiting) (k q : ℕ) (v : List ℕ) (bytes : ℕ) (found : Option (List ℕ)) → IsHeld old.entries bytes → waiting_of old.entries ≡ w → q ≡ k → map.get w k ≡ None → (IsFull w (length v) → ⊥) → Inserted old new q v → found ≡ tree.get nat_cmp old q → length new.entries ≡ length old.entries + (if is_some found then 0 else 1) → IsHeld new.entries (bytes + length v)
held_more old new w k q v bytes found held view key none room at what more =
    let nothing = seen_get old w k q found view key what ∙ none in
    let size : length new.entries ≡ length old.entries + 1 = more ∙ ap (λ o. length old.entries + (if is_some o then 0 else 1)) nothing in
    let is = seen_insert old new w k q v view key at in
    let frames = more_frames w k v none in
    let sum = more_bytes w k v none in
    let counted = ap map.len view in
    let summed = ap bytes_of view in
    let few : map.len w < 1024 = below 1024 (map.len w) (λ full. room (inl full)) in
    let small : bytes_of w + length v ≤ 16777216 = within 16777216 (bytes_of w + length v) (λ full. room (inr full)) in
    record {
      counted = let e : length new.entries ≡ map.len (map.insert w k v) = omega (arith, size, frames, held.counted, counted) in e ∙ sym (ap map.len is);
      summed = let e : bytes + length v ≡ bytes_of (map.insert w k v) = omega (arith, sum, held.summed, summed) in e ∙ sym (ap bytes_of is);
      bounded = subst IsBounded (sym is) (record { frames = omega (arith, frames, few); bytes = omega (arith, sum, small) });
    }
  where
    below : (m n : ℕ) → (m ≤ n → ⊥) → n < m
    below m n never = elim (leb_tells m n) [ inl le ↦ absurd (never le.1) | inr lt ↦ lt.1 ]

    within : (m n : ℕ) → (m < n → ⊥) → n ≤ m
    within m n never = elim (leb_tells n m) [ inl le ↦ le.1 | inr lt ↦ absurd (never lt.1) ]

-- ---- the first one

some_is : (o : Option (List ℕ)) (v : List ℕ) → o ≡ Some v → IsSome o
some_is o v e = ap is_some e

-- no number is below the lowest
pub lowest_below : (m : BTreeMap ℕ (List ℕ)) (p q n : ℕ) (v : List ℕ) → tree.IsLowerBound nat_cmp m p → tree.get nat_cmp m q ≡ Some v → q < n → p < n
lowest_below m p q n v low some below =
    let le = low q (some_is (tree.get nat_cmp m q) v some) in
    grind (arith, nat_tests, le, below)

pub stands : (m : BTreeMap ℕ (List ℕ)) (w : Waiting) (n p : ℕ) → waiting_of m.entries ≡ w → tree.IsLowerBound nat_cmp m p → n ≤ p → StandsFrom n w
stands m w n p view low above = subst (StandsFrom n) view (λ k some. (let le = low k (sym (ap is_some (get_is m k)) ∙ some) in grind (arith, nat_tests, le, above)))

pub stands_none : (m : BTreeMap ℕ (List ℕ)) (w : Waiting) (n : ℕ) → waiting_of m.entries ≡ w → (0 < length m.entries → ⊥) → StandsFrom n w
stands_none m w n view none = subst (StandsFrom n) view (λ k some. absurd (nothing m.entries none k (sym (ap is_some (get_is m k)) ∙ some)))
  where
    nothing : (es : List (ℕ × List ℕ)) → (0 < length es → ⊥) → (k : ℕ) → IsSome (lookup (eq_by_cmp nat_cmp k) es) → ⊥
    nothing [] none k some = cc
    nothing (e ∷ es) none k some = none (omega arith)

-- ---- one after another

pub some_of : (o : Option (List ℕ)) → IsSome o → (v : List ℕ) × (o ≡ Some v)
some_of None some = absurd cc
some_of (Some v) some = (v, refl)

pub drops_fewer : {n : ℕ} {old new : Waiting} → DropsBelow n old new → map.len new < map.len old
drops_fewer {old = old} d =
    let found = some_of (map.get old d.number) d.waits in
    omega (arith, ap map.len d.rest, fewer_frames old d.number found.0 found.1)

pub drops_from : {n : ℕ} {old new : Waiting} → DropsBelow n old new → from_number n new ≡ from_number n old
drops_from {n = n} {old = old} d = ap (from_number n) d.rest ∙ from_fewer n d.number old d.below
