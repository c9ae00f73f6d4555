-- What the instances of a repeating group are, by cases.
use Rattle.std.specs.Prelude.{ℕ, ◌+◌, ◌≡◌, Bool, List, [], ◌∷◌, ◌++◌, Option, Some, None}
use Rattle.fix_fields.specs.Shapes.{Shapes, plain, group}
use Rattle.fix_groups.specs.Tagged.{Tagged}
use Rattle.fix_groups.specs.Looked.{group_at, owner}
use Rattle.fix_groups.specs.Flat.{mark}

mutual
  -- so many instances one after another: each begins with the delimiter
  pub data Instances : Shapes → List Tagged → ℕ → Type 0 where
    none : (g : Shapes) → Instances g [] 0
    one : (t k : ℕ) (n : Option ℕ) (r : Bool) (g : Shapes) (stretch more : List Tagged) → Stands g stretch
        → Instances (plain t r g) more k
        → Instances (plain t r g) (mark t n ∷ stretch ++ more) (k + 1)

  -- fields in the order of the members, each at most once, an inner count with as many instances after it
  pub data Stands : Shapes → List Tagged → Type 0 where
    end : (g : Shapes) → Stands g []
    pass_plain : (t : ℕ) (r : Bool) (g : Shapes) (fs : List Tagged) → Stands g fs → Stands (plain t r g) fs
    pass_group : (c : ℕ) (r : Bool) (inner g : Shapes) (fs : List Tagged) → Stands g fs → Stands (group c r inner g) fs
    takes_plain : (t : ℕ) (n : Option ℕ) (r : Bool) (g : Shapes) (fs : List Tagged) → Stands g fs
        → Stands (plain t r g) (mark t n ∷ fs)
    takes_group : (c k : ℕ) (r : Bool) (inner g : Shapes) (run fs : List Tagged) → Instances inner run k
        → Stands g fs → Stands (group c r inner g) (mark c (Some k) ∷ run ++ fs)

-- the count of a group of the layout itself
pub data HasGroup (c : ℕ) (inner : Shapes) : Shapes → Type 0 where
  here : (r : Bool) (g : Shapes) → HasGroup c inner (group c r inner g)
  behind_plain : (t : ℕ) (r : Bool) (g : Shapes) → HasGroup c inner g → HasGroup c inner (plain t r g)
  behind_group : (d : ℕ) (r : Bool) (other g : Shapes) → HasGroup c inner g → HasGroup c inner (group d r other g)

-- every group is of its instances, and no member stands outside: at the top fields stand in any order
pub data IsWhole (root : Shapes) : List Tagged → Type 0 where
  over : IsWhole root []
  other : (t : ℕ) (n : Option ℕ) (fs : List Tagged) → group_at t root ≡ None → owner t root ≡ None → IsWhole root fs
      → IsWhole root (mark t n ∷ fs)
  grouped : (c k : ℕ) (inner : Shapes) (run fs : List Tagged) → HasGroup c inner root → Instances inner run k
      → IsWhole root fs → IsWhole root (mark c (Some k) ∷ run ++ fs)
