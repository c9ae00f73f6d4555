-- The first fault of the groups of a list of fields.
use Rattle.std.specs.Prelude.{ℕ, Bool, false, ◌||◌, ◌&&◌, ◌==◌, if◌then◌else◌, List, [], ◌∷◌, ◌++◌, Option, Some, None}
use Rattle.fix_fields.specs.Shapes.{Shapes}
use Rattle.fix_groups.specs.Tagged.{Tagged}
use Rattle.fix_groups.specs.Looked.{or_else, group_at, owner, is_in}
use Rattle.fix_groups.specs.Runs.{run_of, starts, begins_well, in_order}
use Rattle.fix_groups.specs.declared.misfit.Misfit.{Misfit}
use Rattle.fix_groups.specs.declared.misfit.Misfit.TheVariants.{Count, Order}

-- the fault of a run after its count, if it has one: the number of instances before their order
abbrev pub judged : ℕ → Option ℕ → Shapes → List Tagged → Option Misfit
judged c None g run = Some (Count c)
judged c (Some k) g run = if starts g run == k then
    (if begins_well g run && in_order g g run then None else Some (Order c)) else Some (Count c)

-- the fault of the group whose count the field is
abbrev pub judged_at : Tagged → List Tagged → Option Shapes → Option Misfit
judged_at f fs None = None
judged_at f fs (Some g) = judged f.tag f.count g (run_of g fs)

-- the first group with a fault, in order of the counts
abbrev pub count_misfit : Shapes → List Tagged → Option Misfit
count_misfit root [] = None
count_misfit root (f ∷ fs) = or_else (judged_at f fs (group_at f.tag root)) (count_misfit root fs)

-- whether the place after the fields lies in a run of the group with this count
abbrev pub is_within : Shapes → ℕ → Bool → List Tagged → Bool
is_within root c inside [] = inside
is_within root c inside (f ∷ fs) = is_within root c (f.tag == c || (inside && is_in root c f.tag)) fs

abbrev pub stray_at : Shapes → List Tagged → Option ℕ → Option Misfit
stray_at root before None = None
stray_at root before (Some c) = if is_within root c false before then None else Some (Order c)

-- the first field that is a member of a group and stands outside every run of it
abbrev pub outside_group : Shapes → List Tagged → List Tagged → Option Misfit
outside_group root before [] = None
outside_group root before (f ∷ fs) = or_else (stray_at root before (owner f.tag root))
    (outside_group root (before ++ f ∷ []) fs)

-- what is wrong first: each group at its count, and after all of them the strays
abbrev pub first_misfit : Shapes → List Tagged → Option Misfit
first_misfit root fs = or_else (count_misfit root fs) (outside_group root [] fs)
