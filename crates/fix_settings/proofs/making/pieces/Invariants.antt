use Rattle.std.proofs.Common.{◌≡◌, ◌==◌, ◌++◌, length}
use Rattle.std.specs.List.{slice_split}
use Rattle.fix_settings.proofs.making.pieces.Given as goal

abbrev pub invariant-loop-piece : goal.invariant-loop-piece
invariant-loop-piece l = l.made.items ++ slice_split (λ b. b == 44) l.rest ≡ slice_split (λ b. b == 44) l.fn.text

abbrev pub decreases-loop-piece : goal.decreases-loop-piece
decreases-loop-piece l = length l.rest
