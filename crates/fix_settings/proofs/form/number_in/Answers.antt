use Rattle.std.proofs.Common.{◌+◌, sym, subst, Some, ◌≡◌, ◌<◌, take, length, ap, ◌∙◌, arith}
use Rattle.std.specs.Str.Parse.{digits_value, AllDigits}
use Rattle.std.proofs.lemmas.List.{take_all}
use Rattle.fix_settings.proofs.FormLemmas.{not_digit, too_large, number_more, more_digits, is_number, too_small}
use Rattle.fix_settings.proofs.form.number_in.Goals as goal

pub returns-then-not-is_ascii_digit : goal.returns-then-not-is_ascii_digit
returns-then-not-is_ascii_digit c = sym (not_digit c.args.low c.args.high c.args.text.now c.loop-digit.digit-index c.loop-digit-test.true (λ low high. omega (arith, c.if-not-is_ascii_digit.ensures.cases)))

pub returns-then-number-from : goal.returns-then-number-from
returns-then-number-from c =
    let digit = c.if-not-is_ascii_digit.ensures.cases in
    sym (too_large c.args.low c.args.high c.args.text.now (c.loop-digit.digit-index + 1) (omega (
      arith,
      number_more c.args.text.now c.loop-digit.digit-index c.loop-digit.number c.from.result c.loop-digit-test.true c.loop-digit.invariant.number digit.0 digit.1 (omega arith),
    )))

pub loop-digit-preserved : goal.loop-digit-preserved
loop-digit-preserved c =
    let digit = c.if-not-is_ascii_digit.ensures.cases in
    record {
      digits = more_digits c.args.text.now c.loop-digit.digit-index c.loop-digit-test.true c.loop-digit.invariant.digits digit.0 digit.1;
      number = number_more c.args.text.now c.loop-digit.digit-index c.loop-digit.number c.from.result c.loop-digit-test.true c.loop-digit.invariant.number digit.0 digit.1 (omega arith);
      below = omega arith;
    }

pub returns-then-number-from-2 : goal.returns-then-number-from-2
returns-then-number-from-2 c =
    let whole : take c.loop-digit.digit-index c.args.text.now ≡ c.args.text.now = take_all _ _ c.loop-digit-test.false in
    let number : c.loop-digit.number ≡ digits_value 10 c.args.text.now = c.loop-digit.invariant.number ∙ ap (digits_value 10) whole in
    sym (too_small c.args.low c.args.high c.args.text.now (omega (arith, number)))

pub returns : goal.returns
returns c =
    let whole : take c.loop-digit.digit-index c.args.text.now ≡ c.args.text.now = take_all _ _ c.loop-digit-test.false in
    let number : c.loop-digit.number ≡ digits_value 10 c.args.text.now = c.loop-digit.invariant.number ∙ ap (digits_value 10) whole in
    let digits : AllDigits 10 c.args.text.now = subst (AllDigits 10) whole c.loop-digit.invariant.digits in
    let some : 0 < length c.args.text.now = grind (arith, c.if-is_empty.ensures) in
    ap (λ n. Some n) number ∙ sym (is_number c.args.low c.args.high c.args.text.now digits some (omega (arith, number)) (omega (arith, number)))
