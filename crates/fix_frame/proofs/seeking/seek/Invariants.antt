use Rattle.std.proofs.Common.{length, ◌-◌}
use Rattle.fix_frame.specs.Seeks.{SkipsBy}
use Rattle.fix_frame.proofs.seeking.seek.Given as goal

abbrev pub invariant-items : goal.invariant-items
invariant-items l = SkipsBy (record { may_mark = l.fn.may_mark; bytes = l.bytes }) l.at l.mark

abbrev pub decreases-items : goal.decreases-items
decreases-items l = length l.bytes - l.at
