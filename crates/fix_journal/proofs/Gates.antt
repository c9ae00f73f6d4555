-- The length of a file up to the closed gate.
use Rattle.std.proofs.Common.{◌≡◌, ℕ, ◌+◌, List, length, arith, length-append}
use Rattle.fix_journal.specs.Format.{NAME, recorded, front}

pub length-front : (ps : List (List ℕ)) → length (front ps) ≡ 9 + length (recorded ps)
length-front ps = omega (arith, length-append NAME (recorded ps))
