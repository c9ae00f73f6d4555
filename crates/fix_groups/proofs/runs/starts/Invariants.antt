use Rattle.std.proofs.Common.{◌≡◌, ◌+◌, ◌≤◌, drop}
use Rattle.fix_groups.specs.Tagged.{all_tagged}
use Rattle.fix_groups.specs.Runs.{starts}
use Rattle.fix_groups.proofs.runs.starts.Given as goal

abbrev pub invariant-loop-field : goal.invariant-loop-field
invariant-loop-field l = (l.n + starts l.group (all_tagged (drop l.field-index l.run)) ≡ starts l.group (all_tagged l.run)) × (l.n ≤ l.field-index)
