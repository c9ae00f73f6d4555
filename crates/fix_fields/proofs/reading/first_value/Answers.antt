use Rattle.std.proofs.Common.{◌≢◌, ◌≡◌, ◌∙◌, [], length, ap, sym, refl, arith}
use Rattle.std.proofs.lemmas.List.{nil_from_length}
use Rattle.fix_fields.specs.Lent.{field_of}
use Rattle.fix_fields.proofs.FieldsLeft.{of_start, of_step, of_here, of_none, of_end}
use Rattle.fix_fields.proofs.EnvelopeLemmas.{value_here, value_past}
use Rattle.fix_fields.proofs.reading.first_value.Goals as goal

pub loop-rest-init : goal.loop-rest-init
loop-rest-init c = of_start c.args.frame.now c.body_fields-rest.result.now _ c.body_fields-rest.ensures (λ all. refl)

pub returns-in_default : goal.returns-in_default
returns-in_default c =
    let some : c.loop-rest.rest.now ≢ [] = λ e. grind (arith, ap length e) in
    λ fs h. absurd (of_none _ c.args.frame.now c.loop-rest.due c.loop-rest.rest.now c.in_default.ensures some c.loop-rest.invariant fs h)

pub returns-then-get-tag : goal.returns-then-get-tag
returns-then-get-tag c =
    let some : c.loop-rest.rest.now ≢ [] = λ e. grind (arith, ap length e) in
    let same : c.in-Some.field.tag ≡ c.args.tag = omega arith in
    λ fs h.
    let p = of_here _ c.args.frame.now c.loop-rest.due (field_of c.in-Some.field) c.loop-rest.rest.now c.in-Some.behind.now c.in-Some.ensures some c.loop-rest.invariant fs h in
    sym (p.1 ∙ value_here c.args.tag (field_of c.in-Some.field) p.0 same)

pub loop-rest-preserved : goal.loop-rest-preserved
loop-rest-preserved c =
    let some : c.loop-rest.rest.now ≢ [] = λ e. grind (arith, ap length e) in
    let other : c.in-Some.field.tag ≢ c.args.tag = λ e. omega (arith, e) in
    rw c.due_after-due.ensures (of_step _ _ c.args.frame.now c.loop-rest.due (field_of c.in-Some.field) c.loop-rest.rest.now c.in-Some.behind.now c.in-Some.ensures some
    (λ all left e. e ∙ value_past c.args.tag (field_of c.in-Some.field) left other) c.loop-rest.invariant)

pub returns : goal.returns
returns c =
    let none : c.loop-rest.rest.now ≡ [] = nil_from_length c.loop-rest.rest.now (grind (arith, c.loop-rest-test.ensures)) in
    λ fs h. sym (of_end _ c.args.frame.now c.loop-rest.due c.loop-rest.rest.now none c.loop-rest.invariant fs h)
