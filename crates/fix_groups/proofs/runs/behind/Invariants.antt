use Rattle.std.proofs.Common.{◌≡◌, drop}
use Rattle.fix_fields.specs.Members.{shapes_of}
use Rattle.fix_groups.specs.Runs.{behind}
use Rattle.fix_groups.proofs.runs.behind.Given as goal

abbrev pub invariant-loop-i : goal.invariant-loop-i
invariant-loop-i l = behind l.tag (shapes_of (drop l.i l.members)) ≡ behind l.tag (shapes_of l.members)
