use Rattle.std.proofs.Common.{◌≡◌, ◌++◌, ◌≤◌, take, drop, length, ◌-◌}
use Rattle.fix_groups.specs.Tagged.{all_tagged}
use Rattle.fix_groups.specs.Runs.{run_of}
use Rattle.fix_groups.proofs.runs.run_length.Given as goal

abbrev pub invariant-loop-n : goal.invariant-loop-n
invariant-loop-n l = (run_of l.group (all_tagged l.fields) ≡ all_tagged (take l.n l.fields) ++ run_of l.group (all_tagged (drop l.n l.fields))) × (l.n ≤ length l.fields)

abbrev pub decreases-loop-n : goal.decreases-loop-n
decreases-loop-n l = length l.fields - l.n
