use Rattle.std.proofs.Common.{◌≡◌, ◌++◌, drop}
use Rattle.fix_validate.specs.Index.{keys_from}
use Rattle.fix_validate.proofs.again.keys_of.Given as goal

abbrev pub invariant-loop-i : goal.invariant-loop-i
invariant-loop-i l = l.keys.items ++ keys_from l.i (drop l.i l.fields) ≡ keys_from 0 l.fields
