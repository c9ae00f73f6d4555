use Rattle.std.proofs.Common.{◌+◌, ◌*◌, arith}
use Rattle.fix_fields.proofs.NumberLemmas.{no_digit, number_more, more_digits, too_large}
use Rattle.fix_fields.proofs.number.digits_after.Goals as goal

pub returns-then-not-is_ascii_digit : goal.returns-then-not-is_ascii_digit
returns-then-not-is_ascii_digit c = no_digit c.args.front c.args.value.now c.loop-digit.digit-index c.loop-digit-test.true (λ low high. omega (arith, c.if-not-is_ascii_digit.ensures.cases))

pub returns-then-number-ge-SIZES : goal.returns-then-number-ge-SIZES
returns-then-number-ge-SIZES c =
    let digit = c.if-not-is_ascii_digit.ensures.cases in
    too_large c.args.front c.args.value.now (c.loop-digit.digit-index + 1) (c.loop-digit.number * 10 + c.from.result)
    (number_more c.args.front c.args.value.now c.loop-digit.digit-index c.loop-digit.number c.from.result c.loop-digit-test.true c.loop-digit.invariant.number digit.0 digit.1 (omega arith)) (omega arith)

pub loop-digit-preserved : goal.loop-digit-preserved
loop-digit-preserved c =
    let digit = c.if-not-is_ascii_digit.ensures.cases in
    record {
      digits = more_digits c.args.value.now c.loop-digit.digit-index c.loop-digit-test.true c.loop-digit.invariant.digits digit.0 digit.1;
      number = number_more c.args.front c.args.value.now c.loop-digit.digit-index c.loop-digit.number c.from.result c.loop-digit-test.true c.loop-digit.invariant.number digit.0 digit.1 (omega arith);
      below = omega arith;
    }
