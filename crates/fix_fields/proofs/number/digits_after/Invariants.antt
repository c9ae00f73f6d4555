use Rattle.std.proofs.Common.{◌≡◌, ◌<◌, ◌^◌, take}
use Rattle.std.specs.Str.Parse.{digits_value_after, AllDigits}
use Rattle.fix_fields.proofs.number.digits_after.Given as goal

abbrev pub invariant-loop-digit : goal.invariant-loop-digit
invariant-loop-digit l = record {
  digits : AllDigits 10 (take l.digit-index l.value);
  number : l.number ≡ digits_value_after 10 l.fn.front (take l.digit-index l.value);
  below : l.number < 10 ^ 15;
}
