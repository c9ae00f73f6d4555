use Rattle.std.proofs.Common.{◌≢◌, ℕ, ◌<◌, ◌≤◌, get_or}
use Rattle.fix_frame.proofs.places.after_version.Given as goal

abbrev pub invariant-loop-i : goal.invariant-loop-i
invariant-loop-i l = (l.i ≤ 13) × ((k : ℕ) → k < l.i → get_or l.bytes k 0 ≢ 1)
