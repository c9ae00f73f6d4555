use Rattle.std.proofs.Common.{arith, ◌+◌, ◌*◌, refl, subst}
use Rattle.fix_base.proofs.Digits.{HasDigits, digits_small, length_begins, length_wrong_at, length_wrong, too_long, no_digit, no_length, value_more, digits_more_here, length_partial}
use Rattle.fix_frame.proofs.places.after_length.Goals as goal
use Rattle.fix_frame.proofs.places.after_length.Goals.{else-i-eq-LAST_LENGTH_DIGIT-via-then-i-eq-LAST_LENGTH_DIGIT+else-not-is_length-2, else-i-eq-LAST_LENGTH_DIGIT-via-else-i-eq-LAST_LENGTH_DIGIT}

pub returns-then-not-is_length : goal.returns-then-not-is_length
returns-then-not-is_length c = length_wrong_at c.args.bytes.now c.loop-i.i c.loop-i.length c.loop-i-test.true c.loop-i.invariant c.if-b-eq-SOH.true (λ low high. let x = c.if-not-is_length.ensures.1 (low, high) in cc)

pub returns-then-b-eq-SOH : goal.returns-then-b-eq-SOH
returns-then-b-eq-SOH c =
    let range = c.if-not-is_length.ensures.0 refl in
    length_begins c.args.bytes.now c.loop-i.i c.loop-i.length c.loop-i-test.true c.loop-i.invariant c.if-b-eq-SOH.true range.0 range.1

pub returns-then-i-eq-MOST_LENGTH_DIGITS : goal.returns-then-i-eq-MOST_LENGTH_DIGITS
returns-then-i-eq-MOST_LENGTH_DIGITS c = length_wrong c.args.bytes.now c.loop-i.i c.loop-i.length c.loop-i-test.true c.loop-i.invariant c.if-b-eq-SOH.false (λ w. too_long c.args.bytes.now w c.loop-i.i c.loop-i-test.true c.if-i-eq-MOST_LENGTH_DIGITS.true)

pub returns-then-not-is_ascii_digit : goal.returns-then-not-is_ascii_digit
returns-then-not-is_ascii_digit c = length_wrong c.args.bytes.now c.loop-i.i c.loop-i.length c.loop-i-test.true c.loop-i.invariant c.if-b-eq-SOH.false
    (λ w. no_digit c.args.bytes.now w c.loop-i.i c.loop-i-test.true (λ low high. omega (arith, c.if-not-is_ascii_digit.ensures.cases)))

pub overflow_mul-length : goal.overflow_mul-length
overflow_mul-length c = omega (arith, digits_small c.loop-i.i c.args.bytes.now c.loop-i.length (omega arith) c.loop-i.invariant)

pub overflow_add-length : goal.overflow_add-length
overflow_add-length c = omega (arith, digits_small c.loop-i.i c.args.bytes.now c.loop-i.length (omega arith) c.loop-i.invariant)

pub returns-then-not-is_length-2 : goal.returns-then-not-is_length-2
returns-then-not-is_length-2 c =
    let digit = c.if-not-is_ascii_digit.ensures.cases in
    length_wrong c.args.bytes.now c.loop-i.i c.loop-i.length c.loop-i-test.true c.loop-i.invariant c.if-b-eq-SOH.false
    (λ w. no_length c.args.bytes.now w c.loop-i.i (c.loop-i.length * 10 + c.from.result) c.loop-i-test.true c.if-i-eq-LAST_LENGTH_DIGIT.true (value_more c.args.bytes.now c.loop-i.i c.loop-i.length c.from.result c.loop-i-test.true c.loop-i.invariant.number digit.0 digit.1 (omega arith))
    (λ low high. let x = c.if-not-is_length-2.ensures.1 (low, high) in cc))

pub loop-i-preserved : goal.loop-i-preserved
loop-i-preserved c =
    let digit = c.if-not-is_ascii_digit.ensures.cases in
    digits_more_here c.args.bytes.now c.loop-i.i c.loop-i.length c.from.result c.loop-i-test.true (omega arith) c.loop-i.invariant digit.0 digit.1 (omega arith)
    (λ six. elim c.else-i-eq-LAST_LENGTH_DIGIT.branch [ else-i-eq-LAST_LENGTH_DIGIT-via-then-i-eq-LAST_LENGTH_DIGIT+else-not-is_length-2 w ↦ w.if-not-is_length-2.ensures.0 refl | else-i-eq-LAST_LENGTH_DIGIT-via-else-i-eq-LAST_LENGTH_DIGIT w ↦ absurd (w.if-i-eq-LAST_LENGTH_DIGIT.false six) ])

pub returns : goal.returns
returns c = length_partial c.args.bytes.now c.loop-i.length (subst (λ i. HasDigits i c.args.bytes.now c.loop-i.length) (omega arith) c.loop-i.invariant)
