use Rattle.std.proofs.Common.{length, ◌-◌}
use Rattle.fix_host.specs.Looking.{IsLookedTo}
use Rattle.fix_host.proofs.looking.look.Given as goal

abbrev pub invariant-items : goal.invariant-items
invariant-items l = IsLookedTo l.bytes l.at

abbrev pub decreases-items : goal.decreases-items
decreases-items l = length l.bytes - l.at
