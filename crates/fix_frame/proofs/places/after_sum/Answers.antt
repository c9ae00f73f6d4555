use Rattle.std.proofs.Common.{◌≡◌, length, get_or, arith, subst, sym, ◌∙◌}
use Rattle.fix_base.proofs.Digits.{HasSum, sum_small, sum_more, sum_no_digit, sum_no_soh, sum_begins, sum_partial}
use Rattle.fix_frame.proofs.places.after_sum.Goals as goal

pub returns-in-None : goal.returns-in-None
returns-in-None c =
    let at : c.loop-i.i ≡ length c.args.bytes.now = omega (arith, c.in-None.ensures.lookup.3, c.loop-i.invariant.inside) in
    sum_partial c.args.bytes.now c.loop-i.sum (omega (arith, c.loop-i.invariant.few)) (subst (λ i. HasSum i c.args.bytes.now c.loop-i.sum) at c.loop-i.invariant)

pub returns-then-not-is_ascii_digit : goal.returns-then-not-is_ascii_digit
returns-then-not-is_ascii_digit c =
    let lookup = c.in-Some.ensures.lookup in
    let at : c.in-Some.b.now ≡ get_or c.args.bytes.now c.loop-i.i 0 = lookup.4 (omega arith) 0 in
    sum_no_digit c.args.bytes.now c.loop-i.i c.loop-i.sum lookup.3.0 c.loop-i-test.true c.loop-i.invariant (λ low high. omega (arith, at, c.if-not-is_ascii_digit.ensures.cases))

pub overflow_mul-sum : goal.overflow_mul-sum
overflow_mul-sum c = omega (arith, sum_small c.loop-i.i c.args.bytes.now c.loop-i.sum c.loop-i.invariant)

pub overflow_add-sum : goal.overflow_add-sum
overflow_add-sum c = omega (arith, sum_small c.loop-i.i c.args.bytes.now c.loop-i.sum c.loop-i.invariant, c.if-not-is_ascii_digit.ensures.cases, c.from.ensures)

pub loop-i-preserved : goal.loop-i-preserved
loop-i-preserved c =
    let lookup = c.in-Some.ensures.lookup in
    let at : c.in-Some.b.now ≡ get_or c.args.bytes.now c.loop-i.i 0 = lookup.4 (omega arith) 0 in
    let digit = c.if-not-is_ascii_digit.ensures.cases in
    sum_more c.args.bytes.now c.loop-i.i c.loop-i.sum c.from.result lookup.3.0 c.loop-i-test.true c.loop-i.invariant (omega (arith, at, digit.0)) (omega (arith, at, digit.1)) (omega (arith, at, digit.0, c.from.ensures))

pub returns-in-None-get : goal.returns-in-None-get
returns-in-None-get c =
    let three : c.loop-i.i ≡ length c.args.bytes.now = omega (arith, c.in-None-get.ensures.lookup.3, c.loop-i.invariant.inside, c.loop-i.invariant.few) in
    sum_partial c.args.bytes.now c.loop-i.sum (omega (arith, c.in-None-get.ensures.lookup.3)) (subst (λ i. HasSum i c.args.bytes.now c.loop-i.sum) three c.loop-i.invariant)

pub returns-then-b-ne-SOH : goal.returns-then-b-ne-SOH
returns-then-b-ne-SOH c =
    let lookup = c.in-Some-get.ensures.lookup in
    let at : c.in-Some-get.b.now ≡ get_or c.args.bytes.now 3 0 = lookup.4 (omega arith) 0 in
    let three : c.loop-i.i ≡ 3 = omega (arith, c.loop-i.invariant.few) in
    sum_no_soh c.args.bytes.now c.loop-i.sum lookup.3.0 (subst (λ i. HasSum i c.args.bytes.now c.loop-i.sum) three c.loop-i.invariant) (λ soh. c.if-b-ne-SOH.true (at ∙ soh))

pub returns-else-b-ne-SOH : goal.returns-else-b-ne-SOH
returns-else-b-ne-SOH c =
    let lookup = c.in-Some-get.ensures.lookup in
    let at : c.in-Some-get.b.now ≡ get_or c.args.bytes.now 3 0 = lookup.4 (omega arith) 0 in
    let three : c.loop-i.i ≡ 3 = omega (arith, c.loop-i.invariant.few) in
    sum_begins c.args.bytes.now c.loop-i.sum lookup.3.0 (subst (λ i. HasSum i c.args.bytes.now c.loop-i.sum) three c.loop-i.invariant) (sym at ∙ c.if-b-ne-SOH.false)
