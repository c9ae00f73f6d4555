use Rattle.std.proofs.Common.{◌≢◌, ◌≡◌, ◌∙◌, [], length, ap, sym, arith}
use Rattle.std.proofs.lemmas.List.{nil_from_length}
use Rattle.fix_fields.specs.Lent.{field_of}
use Rattle.fix_fields.specs.HeaderValues.{firsts_of, firsts_with}
use Rattle.fix_fields.proofs.FieldsLeft.{left_none, left_step, left_end, firsts_step, firsts_end, shorter, numbers_more}
use Rattle.fix_fields.proofs.header_values.HeaderValues.of.Goals as goal

pub returns-in_default : goal.returns-in_default
returns-in_default c =
    let some : c.loop-noted.rest.now ≢ [] = λ e. grind (arith, ap length e) in
    λ fs are. absurd (left_none _ c.args.body.now c.loop-noted.due c.loop-noted.rest.now c.in_default.ensures some c.loop-noted.invariant.left fs are)

pub loop-noted-preserved : goal.loop-noted-preserved
loop-noted-preserved c =
    let some : c.loop-noted.rest.now ≢ [] = λ e. grind (arith, ap length e) in
    record {
      left = rw c.due_after-due.ensures (left_step _ _ c.args.body.now c.loop-noted.due (field_of c.in-Some.field) c.loop-noted.rest.now c.in-Some.behind.now c.in-Some.ensures some
          (λ all left e. e ∙ firsts_step _ (field_of c.in-Some.field) left ∙ ap (λ n. firsts_with n left) (sym c.with-noted.ensures)) c.loop-noted.invariant.left);
      numbers = omega (arith, c.loop-noted.invariant.numbers, shorter c.loop-noted.due (field_of c.in-Some.field) c.loop-noted.rest.now c.in-Some.behind.now c.in-Some.ensures, numbers_more _ (firsts_of c.with-noted.result) (field_of c.in-Some.field) c.with-noted.ensures);
    }

pub returns : goal.returns
returns c =
    let none : c.loop-noted.rest.now ≡ [] = nil_from_length c.loop-noted.rest.now (grind (arith, c.loop-noted-test.ensures)) in
    λ fs are. sym (left_end _ c.args.body.now c.loop-noted.due c.loop-noted.rest.now none c.loop-noted.invariant.left fs are ∙ firsts_end _)
