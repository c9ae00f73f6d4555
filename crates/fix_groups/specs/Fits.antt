-- What makes a tree that of its fields.
use Rattle.std.specs.Prelude.{◌≡◌, true, List, [], ◌∷◌, Some, None}
use Rattle.fix_base.specs.Fields.{Field}
use Rattle.fix_fields.specs.Shapes.{Shapes}
use Rattle.fix_fields.specs.NoTwice.{has_tag}
use Rattle.fix_groups.specs.Tagged.{Tagged, all_tagged}
use Rattle.fix_groups.specs.Looked.{group_at}
use Rattle.fix_groups.specs.Runs.{starts, begins_well}
use Rattle.fix_groups.specs.Nodes.{Nodes, stop, field, group, item}
use Rattle.fix_groups.specs.Flat.{flat, marks, plainly}

-- the fields are one instance of the group: its delimiter stands at the front and nowhere else
pub record IsPiece (g : Shapes) (fs : List Tagged) : Type 0 where
  pub begins : begins_well g fs ≡ true
  pub once : starts g fs ≡ 1

-- each count of a group is a group, with an item for each instance, and no other field is
abbrev mutual
  pub Fits : Shapes → Nodes → Type 0
  Fits root stop = Unit {0}
  Fits root (field t v ns) = (group_at t root ≡ None) × Fits root ns
  Fits root (group c is ns) = (g : Shapes) × (group_at c root ≡ Some g) × FitItems root g is × Fits root ns
  Fits root (item t is) = ⊥

  pub FitItems : Shapes → Shapes → Nodes → Type 0
  FitItems root g stop = Unit {0}
  FitItems root g (item t is) = IsPiece g (marks t) × Fits root t × FitItems root g is
  FitItems root g (field t v ns) = ⊥
  FitItems root g (group c is ns) = ⊥

-- all tags are of the group, or of groups inside it
abbrev pub IsAllOf : Shapes → List Tagged → Type 0
IsAllOf g [] = Unit {0}
IsAllOf g (f ∷ fs) = (has_tag f.tag g ≡ true) × IsAllOf g fs

-- the tree of the fields: its shape, and that it says what they say, counts without leading zeros
pub record IsTreeOf (root : Shapes) (fs : List Field) (tree : Nodes) : Type 0 where
  pub fits : Fits root tree
  pub marked : marks tree ≡ all_tagged fs
  pub spelled : flat tree ≡ plainly root fs

pub record AreItemsOf (root g : Shapes) (fs : List Field) (items : Nodes) : Type 0 where
  pub fits : FitItems root g items
  pub marked : marks items ≡ all_tagged fs
  pub spelled : flat items ≡ plainly root fs
