use Rattle.std.proofs.Common.{◌≡◌, arith, inl, inr}
use Rattle.std.proofs.lemmas.Bool.{cases_lt}
use Rattle.fix_base.proofs.TagTexts.{tag_small, tag_more, tag_begins, tag_ends, ends_behind, goes_on}
use Rattle.fix_fields.proofs.tag.tag_at.Goals as goal
use Rattle.fix_fields.proofs.tag.tag_at.Goals.{else-tag-eq0-via-then-tag-eq0+else-b-eq48, else-tag-eq0-via-else-tag-eq0}

pub returns-then-i-eq0 : goal.returns-then-i-eq0
returns-then-i-eq0 c = λ n rest b. let e = tag_ends n c.args.bytes.now rest b in omega (arith, e.high c.loop-i.i (omega (arith, e.some)))

pub returns-then-b-eq61 : goal.returns-then-b-eq61
returns-then-b-eq61 c = tag_begins c.args.bytes.now c.loop-i.i c.loop-i.tag c.loop-i-test.true c.if-i-eq0.false c.loop-i.invariant c.if-b-eq61.true

pub returns-then-i-eq-MOST_DIGITS : goal.returns-then-i-eq-MOST_DIGITS
returns-then-i-eq-MOST_DIGITS c = λ n rest b. let e = tag_ends n c.args.bytes.now rest b in
    omega (arith, goes_on c.args.bytes.now c.loop-i.i c.loop-i.tag _ c.loop-i-test.true c.loop-i.invariant c.if-b-eq61.false e, e.few)

pub returns-then-not-is_ascii_digit : goal.returns-then-not-is_ascii_digit
returns-then-not-is_ascii_digit c = λ n rest b.
    let e = tag_ends n c.args.bytes.now rest b in
    let lt = goes_on c.args.bytes.now c.loop-i.i c.loop-i.tag _ c.loop-i-test.true c.loop-i.invariant c.if-b-eq61.false e in
    omega (arith, e.low c.loop-i.i lt, e.high c.loop-i.i lt, c.if-not-is_ascii_digit.ensures.cases)

pub returns-then-b-eq48 : goal.returns-then-b-eq48
returns-then-b-eq48 c = λ n rest b.
    let e = tag_ends n c.args.bytes.now rest b in
    elim (cases_lt 0 c.loop-i.i) [
      | inl pos ↦ omega (arith, c.loop-i.invariant.positive pos)
      | inr none ↦ let first : c.loop-i.i ≡ 0 = omega arith in let at = c.if-b-eq48.true in let low = e.lead in absurd (omega (arith, rw first at at))
    ]

pub overflow_mul-tag : goal.overflow_mul-tag
overflow_mul-tag c = omega (arith, tag_small 8 c.loop-i.i c.args.bytes.now c.loop-i.tag (omega arith) (omega (arith, c.loop-i.invariant.few, c.if-i-eq-MOST_DIGITS.false)) c.loop-i.invariant)

pub overflow_add-tag : goal.overflow_add-tag
overflow_add-tag c = omega (arith, tag_small 8 c.loop-i.i c.args.bytes.now c.loop-i.tag (omega arith) (omega (arith, c.loop-i.invariant.few, c.if-i-eq-MOST_DIGITS.false)) c.loop-i.invariant, c.if-not-is_ascii_digit.ensures.cases)

pub loop-i-preserved : goal.loop-i-preserved
loop-i-preserved c =
    let digit = c.if-not-is_ascii_digit.ensures.cases in
    tag_more c.args.bytes.now c.loop-i.i c.loop-i.tag c.from.result c.loop-i-test.true c.if-i-eq-MOST_DIGITS.false c.loop-i.invariant digit.0 digit.1 (omega arith)
    (λ none zero. elim c.else-tag-eq0.branch [ else-tag-eq0-via-then-tag-eq0+else-b-eq48 w ↦ w.if-b-eq48.false zero | else-tag-eq0-via-else-tag-eq0 w ↦ w.if-tag-eq0.false none ])

pub returns : goal.returns
returns c = λ n rest b. let e = tag_ends n c.args.bytes.now rest b in omega (arith, e.inside, ends_behind c.args.bytes.now c.loop-i.i c.loop-i.tag _ (omega arith) c.loop-i.invariant e)
