use Rattle.std.proofs.Common.{◌≡◌, ◌++◌, ◌≤◌, ◌-◌, take, drop, length}
use Rattle.fix_groups.specs.Tagged.{all_tagged}
use Rattle.fix_validate.specs.Required.{up_to}
use Rattle.fix_validate.proofs.required.length_up_to.Given as goal

abbrev pub invariant-loop-n : goal.invariant-loop-n
invariant-loop-n l = (all_tagged (take l.n l.fields) ++ up_to l.delimiter (all_tagged (drop l.n l.fields)) ≡ up_to l.delimiter (all_tagged l.fields)) × (l.n ≤ length l.fields)

abbrev pub decreases-loop-n : goal.decreases-loop-n
decreases-loop-n l = length l.fields - l.n
