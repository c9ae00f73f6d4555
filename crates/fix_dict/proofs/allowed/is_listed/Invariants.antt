use Rattle.std.proofs.Common.{◌≡◌, drop}
use Rattle.fix_dict.specs.Allowed.{is_listed}
use Rattle.fix_dict.proofs.allowed.is_listed.Given as goal

abbrev pub invariant-loop-listed : goal.invariant-loop-listed
invariant-loop-listed l = is_listed (drop l.listed-index l.values) l.value ≡ is_listed l.values l.value
