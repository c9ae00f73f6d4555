use Rattle.std.proofs.Common.{◌≡◌, get_or, take, arith, sym, ap, subst, ◌∙◌, refl, Some}
use Rattle.std.specs.Str.Parse.{digits_value, AllDigits}
use Rattle.std.proofs.lemmas.List.{take_all}
use Rattle.std.proofs.lemmas.Int.Digits.{digits_more}
use Rattle.std.proofs.lemmas.Str.{digit_value_digit}
use Rattle.fix_base.proofs.Digits.{value_more}
use Rattle.fix_groups.proofs.CountLemmas.{count_is, no_count, count_small}
use Rattle.fix_groups.proofs.number.count_number.Goals as goal

pub returns-then-not-is_ascii_digit : goal.returns-then-not-is_ascii_digit
returns-then-not-is_ascii_digit c = rw (no_count c.args.value.now c.loop-b.b-index c.loop-b-test.true (λ low high. omega (arith, c.if-not-is_ascii_digit.ensures.cases))) refl

pub overflow_mul-number : goal.overflow_mul-number
overflow_mul-number c = omega (arith, count_small c.args.value.now c.loop-b.b-index c.loop-b.number (omega arith) c.if-value-gt-MOST_COUNT_DIGITS.false c.loop-b.invariant.0 c.loop-b.invariant.1)

pub overflow_add-number : goal.overflow_add-number
overflow_add-number c = omega (arith, count_small c.args.value.now c.loop-b.b-index c.loop-b.number (omega arith) c.if-value-gt-MOST_COUNT_DIGITS.false c.loop-b.invariant.0 c.loop-b.invariant.1)

pub loop-b-preserved : goal.loop-b-preserved
loop-b-preserved c =
    let digit = c.if-not-is_ascii_digit.ensures.cases in (
      digits_more 10 c.args.value.now c.loop-b.b-index c.loop-b-test.true c.loop-b.invariant.0 (omega (arith, digit_value_digit (get_or c.args.value.now c.loop-b.b-index 0) digit)),
      sym (value_more c.args.value.now c.loop-b.b-index c.loop-b.number c.from.result c.loop-b-test.true (sym c.loop-b.invariant.1) digit.0 digit.1 (omega arith)),
    )

pub returns : goal.returns
returns c =
    let all : take c.loop-b.b-index c.args.value.now ≡ c.args.value.now = take_all c.loop-b.b-index c.args.value.now c.loop-b-test.false in
    rw (count_is c.args.value.now (grind arith) c.if-value-gt-MOST_COUNT_DIGITS.false (subst (AllDigits 10) all c.loop-b.invariant.0)) (ap Some (c.loop-b.invariant.1 ∙ ap (digits_value 10) all))
