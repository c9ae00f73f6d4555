-- Writing a tree's fields one behind the other.
use Rattle.std.proofs.Common.{◌≡◌, ℕ, ◌≤◌, ◌<◌, ◌+◌, length, get_or, ◌++◌, List, [], ◌∷◌, drop, append_assoc, arith, refl, ap, sym, ◌∙◌}
use Rattle.std.proofs.lemmas.Grind.{common_steps}
use Rattle.fix_base.specs.Fields.{Field}
use Rattle.fix_base.specs.Says.{field_text, fields_text}
use Rattle.fix_fields.proofs.DraftLemmas.{fields_text-append}
use Rattle.fix_groups.specs.Flat.{flat}
use Rattle.fix_groups.specs.Nodes.{Nodes, items_count}
use Rattle.fix_groups.specs.NodesOf.{items_of}

pub items_count-items_of : (ts : List Nodes) → items_count (items_of ts) ≡ length ts
items_count-items_of [] = refl
items_count-items_of (t ∷ ts) = omega (arith, items_count-items_of ts)

pub flat_past : (ts : List Nodes) (i : ℕ) → length ts ≤ i → flat (items_of (drop i ts)) ≡ []
flat_past ts i h = grind (arith, common_steps)

dropped : (ts : List Nodes) (n : ℕ) (d : Nodes) → n < length ts → drop n ts ≡ get_or ts n d ∷ drop (n + 1) ts
dropped ts n d h = grind (arith, common_steps)

pub item_step : (now new : List ℕ) (ts : List Nodes) (i : ℕ) (x : Nodes) {S : List ℕ} → i < length ts → x ≡ get_or ts i x → new ≡ now ++ fields_text (flat x) → now ++ fields_text (flat (items_of (drop i ts))) ≡ S → new ++ fields_text (flat (items_of (drop (i + 1) ts))) ≡ S
item_step now new ts i x lt here grown h =
    let e : drop i ts ≡ x ∷ drop (i + 1) ts = dropped ts i x lt ∙ ap (λ y. y ∷ drop (i + 1) ts) (sym here) in
    let m : fields_text (flat (items_of (drop i ts))) ≡ fields_text (flat x) ++ fields_text (flat (items_of (drop (i + 1) ts))) = ap (λ l. fields_text (flat (items_of l))) e ∙ fields_text-append (flat x) (flat (items_of (drop (i + 1) ts))) in
    rw grown (append_assoc now (fields_text (flat x)) (fields_text (flat (items_of (drop (i + 1) ts)))) ∙ ap (λ l. now ++ l) (sym m) ∙ h)
