-- What is said of fields that are split by their groups.
use Rattle.std.specs.Prelude.{◌≡◌, List, Some, Result, Ok, Err}
use Rattle.fix_base.specs.Fields.{Field}
use Rattle.fix_fields.specs.Shapes.{Shapes}
use Rattle.fix_groups.specs.Tagged.{all_tagged}
use Rattle.fix_groups.specs.Nodes.{Nodes}
use Rattle.fix_groups.specs.Misfits.{first_misfit}
use Rattle.fix_groups.specs.Fits.{IsTreeOf}
use Rattle.fix_groups.specs.Instances.{IsWhole}
use Rattle.fix_groups.specs.declared.misfit.GroupFault.{GroupFault}
use Rattle.fix_groups.specs.declared.misfit.GroupFault.TheVariants.{CountWrong, OrderWrong, OutOfMemory}
use Rattle.fix_groups.specs.declared.misfit.Misfit.{Misfit}
use Rattle.fix_groups.specs.declared.misfit.Misfit.TheVariants.{Count, Order}

abbrev pub fault_of : Misfit → GroupFault
fault_of (Count c) = CountWrong c
fault_of (Order c) = OrderWrong c

-- Where every group is of its instances and no member stands outside, the tree of the fields; else
-- what is wrong first. Out of memory says nothing of the fields.
abbrev pub Answers : Shapes → List Field → Result Nodes GroupFault → Type 0
Answers root fs (Ok tree) = IsTreeOf root fs tree × IsWhole root (all_tagged fs)
Answers root fs (Err (CountWrong c)) = (first_misfit root (all_tagged fs) ≡ Some (Count c))
    × (IsWhole root (all_tagged fs) → ⊥)
Answers root fs (Err (OrderWrong c)) = (first_misfit root (all_tagged fs) ≡ Some (Order c))
    × (IsWhole root (all_tagged fs) → ⊥)
Answers root fs (Err OutOfMemory) = Unit {0}
