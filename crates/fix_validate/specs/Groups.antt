-- The faults of repeating groups.
use Rattle.std.specs.Prelude.{⊤, List, [], ◌∷◌, ◌++◌, Option, Some, None}
use Rattle.fix_base.specs.declared.fault.Fault.{Fault}
use Rattle.fix_fields.specs.Shapes.{Shapes}
use Rattle.fix_groups.specs.Tagged.{Tagged}
use Rattle.fix_groups.specs.Looked.{group_at}
use Rattle.fix_groups.specs.Misfits.{judged_at, outside_group}
use Rattle.fix_groups.specs.declared.misfit.Misfit.{Misfit}
use Rattle.fix_groups.specs.declared.misfit.Misfit.TheVariants.{Count, Order}
use Rattle.fix_validate.specs.Rows.{Row, fault_at}

-- 16, Incorrect NumInGroup count for repeating group, and 15, Repeating group fields out of order: both name
-- the count
abbrev pub group_fault : Misfit → Fault
group_fault (Count count) = fault_at 16 count
group_fault (Order count) = fault_at 15 count

-- the row of what is wrong, where something is
abbrev pub misfit_rows : Option Misfit → List Row
misfit_rows None = []
misfit_rows (Some misfit) = record { holds = ⊤; fault = group_fault misfit } ∷ []

-- each group at its count, in the order of the counts
abbrev pub count_rows : Shapes → List Tagged → List Row
count_rows root [] = []
count_rows root (f ∷ fs) = misfit_rows (judged_at f fs (group_at f.tag root)) ++ count_rows root fs

-- after all of them the first member that stands outside every run of its group
abbrev pub groups_rows : Shapes → List Tagged → List Row
groups_rows root fs = count_rows root fs ++ misfit_rows (outside_group root [] fs)
