-- The fields of a tree.
use Rattle.std.specs.Prelude.{ℕ, ◌≡◌, List, [], ◌∷◌, ◌++◌, length, get_or, Option, Some, None}
use Rattle.std.specs.Fmt.{decimal}
use Rattle.fix_base.specs.Fields.{Field}
use Rattle.fix_fields.specs.Shapes.{Shapes}
use Rattle.fix_groups.specs.Tagged.{Tagged, count_in}
use Rattle.fix_groups.specs.Looked.{group_at}
use Rattle.fix_groups.specs.Nodes.{Nodes, stop, field, group, item, items_count}

-- the nodes in order: a group's count says how many instances it has, and these follow
abbrev pub flat : Nodes → List Field
flat stop = []
flat (field t v ns) = record { tag = t; value = v } ∷ flat ns
flat (group c is ns) = record { tag = c; value = decimal (items_count is) } ∷ flat is ++ flat ns
flat (item t is) = flat t ++ flat is

-- their tags and numbers
abbrev pub mark : ℕ → Option ℕ → Tagged
mark t n = record { tag = t; count = n }

abbrev pub marks : Nodes → List Tagged
marks stop = []
marks (field t v ns) = mark t (count_in v) ∷ marks ns
marks (group c is ns) = mark c (Some (items_count is)) ∷ marks is ++ marks ns
marks (item t is) = marks t ++ marks is

-- fields whose counts have no leading zeros
abbrev pub plain_number : Option ℕ → List ℕ → List ℕ
plain_number None v = v
plain_number (Some k) v = decimal k

abbrev pub plain_value : Option Shapes → List ℕ → List ℕ
plain_value None v = v
plain_value (Some g) v = plain_number (count_in v) v

abbrev pub plainly : Shapes → List Field → List Field
plainly root [] = []
plainly root (f ∷ fs) = record { tag = f.tag; value = plain_value (group_at f.tag root) f.value } ∷ plainly root fs

-- no count of a group has leading zeros
abbrev pub IsPlainNumber : List ℕ → Type 0
IsPlainNumber v = get_or v 0 0 ≡ 48 → length v ≡ 1

abbrev pub HasPlainCounts : Shapes → List Field → Type 0
HasPlainCounts root [] = Unit {0}
HasPlainCounts root (f ∷ fs) = ((g : Shapes) → group_at f.tag root ≡ Some g → IsPlainNumber f.value)
    × HasPlainCounts root fs
