use Rattle.std.proofs.Common.{◌≡◌, take}
use Rattle.std.specs.Str.Parse.{digits_value, AllDigits}
use Rattle.fix_groups.proofs.number.count_number.Given as goal

abbrev pub invariant-loop-b : goal.invariant-loop-b
invariant-loop-b l = AllDigits 10 (take l.b-index l.value) × (l.number ≡ digits_value 10 (take l.b-index l.value))
