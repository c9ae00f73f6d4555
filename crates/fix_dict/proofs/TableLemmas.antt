-- A table as the code keeps it, by keys that the order tells apart.
use Rattle.std.proofs.Common.{◌≡◌, Ordering, Less, Equal, Greater, ℕ, nat_cmp, Vec, List, [], ◌∷◌, Some, cond, refl, sym, ap, ◌∙◌}
use Rattle.std.specs.FinMap.Entries.{by_order, find-put}
use Rattle.std.specs.declared.alloc.Global.{Global}
use Rattle.std.specs.Ordering.{eq_by_cmp, is_eq, match_ordering}
use Rattle.std.specs.Cmp.Lexicographic.{slice_cmp, nat_list_cmp_total}
use Rattle.std.specs.Cmp.{IsTotalOrder, eq_by_cmp_equiv}
use Rattle.std.specs.BTreeMap as tree
use Rattle.std.specs.BTreeMap.{BTreeMap}
use Rattle.std.specs.Map.{lookup}
use Rattle.std.specs.FinMap as table
use Rattle.fix_dict.specs.Keyed.{by_bytes}

module _ {K X : Type 0} {R : K → K → Ordering} (o : IsTotalOrder R) where
  found_is : (q : K) (es : List (K × X)) → table.find R q es ≡ lookup (eq_by_cmp R q) es
  found_is q [] = refl
  found_is q (e ∷ es) = ap (cond (eq_by_cmp R q e.0) (Some e.1)) (found_is q es)

  pub get_is : (m : BTreeMap K X) (q : K) → table.get (table.from_entries {R = R} m.entries) q ≡ tree.get R m q
  get_is m q = table.get-from_entries o m.entries q ∙ found_is q m.entries

  pub insert_is : table.IsAntisymmetric R → (old new : BTreeMap K X) (k : K) (v : X) → ((q : K) → tree.get R new q ≡ cond (eq_by_cmp R k q) (Some v) (tree.get R old q))
      → table.from_entries {R = R} new.entries ≡ table.insert (table.from_entries old.entries) k v
  insert_is same old new k v at =
      table.same_map o same _ _
      (λ q. get_is new q ∙ at q ∙ ap (λ b. cond b (Some v) (tree.get R old q)) ((eq_by_cmp_equiv o).symm k q)
      ∙ ap (cond (eq_by_cmp R q k) (Some v)) (sym (get_is old q)) ∙ sym (table.get-insert o _ k v q))

-- ---- by lists of bytes

module _ {X : Type 0} where
  found_by_bytes : (q : List ℕ) (es : List (Vec ℕ Global × X)) → table.find (slice_cmp nat_cmp) q (by_bytes es) ≡ lookup (λ k. is_eq (slice_cmp nat_cmp q k.items)) es
  found_by_bytes q [] = refl
  found_by_bytes q (e ∷ es) = ap (cond (is_eq (slice_cmp nat_cmp q e.0.items)) (Some e.1)) (found_by_bytes q es)

  pub get_bytes_is : (es : List (Vec ℕ Global × X)) (q : List ℕ) → table.get (table.from_entries {R = slice_cmp nat_cmp} (by_bytes es)) q ≡ lookup (λ k. is_eq (slice_cmp nat_cmp q k.items)) es
  get_bytes_is es q = table.get-from_entries nat_list_cmp_total (by_bytes es) q ∙ found_by_bytes q es

  put_is : (k : Vec ℕ Global) (v : X) (es : List (Vec ℕ Global × X))
      → by_bytes (tree.insert_entry (λ x y. slice_cmp nat_cmp x.items y.items) es k v) ≡ table.put (slice_cmp nat_cmp) k.items v (by_bytes es)
  put_is k v [] = refl
  put_is k v (e ∷ es) =
      elim (slice_cmp nat_cmp k.items e.0.items) as (λ r. by_bytes (match_ordering r ((k, v) ∷ e ∷ es) ((e.0, v) ∷ es) (e ∷ tree.insert_entry (λ x y. slice_cmp nat_cmp x.items y.items) es k v))
      ≡ by_order r ((k.items, v) ∷ (e.0.items, e.1) ∷ by_bytes es) ((e.0.items, v) ∷ by_bytes es) ((e.0.items, e.1) ∷ table.put (slice_cmp nat_cmp) k.items v (by_bytes es))) [
        | Less ↦ refl
        | Equal ↦ refl
        | Greater ↦ ap (λ l. (e.0.items, e.1) ∷ l) (put_is k v es)
      ]

  pub insert_bytes_is : (old new : List (Vec ℕ Global × X)) (k : Vec ℕ Global) (v : X) → new ≡ tree.insert_entry (λ x y. slice_cmp nat_cmp x.items y.items) old k v
      → table.from_entries {R = slice_cmp nat_cmp} (by_bytes new) ≡ table.insert (table.from_entries (by_bytes old)) k.items v
  insert_bytes_is old new k v is =
      ap (λ es. table.from_entries {R = slice_cmp nat_cmp} (by_bytes es)) is ∙ ap (table.from_entries {R = slice_cmp nat_cmp}) (put_is k v old)
      ∙ table.same_map nat_list_cmp_total (table.slice_cmp-IsAntisymmetric table.nat_cmp-IsAntisymmetric) _ _
      (λ q. table.get-from_entries nat_list_cmp_total _ q ∙ find-put (slice_cmp nat_cmp) nat_list_cmp_total q k.items v (by_bytes old)
      ∙ ap (cond (eq_by_cmp (slice_cmp nat_cmp) q k.items) (Some v)) (sym (table.get-from_entries nat_list_cmp_total (by_bytes old) q)) ∙ sym (table.get-insert nat_list_cmp_total _ k.items v q))
