-- The first fault of groups is the first row of their table.
use Rattle.std.proofs.Common.{List, [], ◌∷◌, ◌++◌, Option, Some, None, option_map, refl}
use Rattle.fix_fields.specs.Shapes.{Shapes}
use Rattle.fix_groups.specs.Tagged.{Tagged}
use Rattle.fix_groups.specs.Looked.{or_else, group_at}
use Rattle.fix_groups.specs.Misfits.{judged_at, count_misfit, outside_group, first_misfit}
use Rattle.fix_groups.specs.declared.misfit.Misfit.{Misfit}
use Rattle.fix_validate.specs.Rows.{Row, Finds}
use Rattle.fix_validate.specs.Groups.{group_fault, misfit_rows, count_rows, groups_rows}
use Rattle.fix_validate.proofs.RowLemmas.{finds_none, finds_here, finds_front, finds_behind}

misfit_finds : (m : Option Misfit) → Finds (misfit_rows m) (option_map group_fault m)
misfit_finds None = finds_none None refl
misfit_finds (Some m) = finds_here _ [] _ tt refl

either_finds : (xs ys : List Row) (m n : Option Misfit) → Finds xs (option_map group_fault m) → Finds ys (option_map group_fault n) → Finds (xs ++ ys) (option_map group_fault (or_else m n))
either_finds xs ys (Some m) n h k = finds_front xs ys _ (group_fault m) refl h
either_finds xs ys None n h k = finds_behind xs ys _ None refl h k

count_finds : (root : Shapes) (fs : List Tagged) → Finds (count_rows root fs) (option_map group_fault (count_misfit root fs))
count_finds root [] = finds_none None refl
count_finds root (f ∷ fs) = either_finds _ _ (judged_at f fs (group_at f.tag root)) (count_misfit root fs) (misfit_finds (judged_at f fs (group_at f.tag root))) (count_finds root fs)

pub groups_finds : (root : Shapes) (fs : List Tagged) → Finds (groups_rows root fs) (option_map group_fault (first_misfit root fs))
groups_finds root fs = either_finds _ _ (count_misfit root fs) (outside_group root [] fs) (count_finds root fs) (misfit_finds (outside_group root [] fs))
