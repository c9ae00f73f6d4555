use Rattle.std.proofs.Common.{◌<◌, ◌≤◌, ◌-◌, take, length}
use Rattle.fix_groups.specs.Tagged.{all_tagged}
use Rattle.fix_groups.specs.Fits.{IsPiece}
use Rattle.fix_groups.proofs.build.piece_length.Given as goal

abbrev pub invariant-loop-n : goal.invariant-loop-n
invariant-loop-n l = record { some : 0 < l.n; within : l.n ≤ length l.fields; piece : IsPiece l.group (all_tagged (take l.n l.fields)) }

abbrev pub decreases-loop-n : goal.decreases-loop-n
decreases-loop-n l = length l.fields - l.n
