use Rattle.std.proofs.Common.{◌≢◌, ◌≡◌, ◌∙◌, ◌++◌, ℕ, List, [], length, ap, sym, arith}
use Rattle.std.proofs.lemmas.List.{nil_from_length, append-nil}
use Rattle.fix_base.specs.Says.{body_of}
use Rattle.fix_fields.specs.Lent.{field_of}
use Rattle.fix_fields.proofs.FieldsLeft.{of_start, of_step, of_none, of_end}
use Rattle.fix_fields.proofs.EnvelopeLemmas.{body_more, field_bytes}
use Rattle.fix_fields.proofs.reading.body_of.Goals as goal

pub loop-rest-init : goal.loop-rest-init
loop-rest-init c = of_start c.args.frame.now c.body_fields-rest.result.now _ c.body_fields-rest.ensures (λ all. ap (λ (t : List ℕ). t ++ body_of all) (sym c.in_ok-body.ensures.items))

pub returns-in_default : goal.returns-in_default
returns-in_default c =
    let some : c.loop-rest.rest.now ≢ [] = λ e. grind (arith, ap length e) in
    λ fs h. absurd (of_none _ c.args.frame.now c.loop-rest.due c.loop-rest.rest.now c.in_default.ensures some c.loop-rest.invariant fs h)

pub loop-rest-preserved : goal.loop-rest-preserved
loop-rest-preserved c =
    let some : c.loop-rest.rest.now ≢ [] = λ e. grind (arith, ap length e) in
    rw c.due_after-due.ensures (of_step _ _ c.args.frame.now c.loop-rest.due (field_of c.in-Some.field) c.loop-rest.rest.now c.in-Some.behind.now c.in-Some.ensures some
    (λ all left e. e ∙ body_more c.loop-rest.body.items c.keep.new.body.items _ (field_of c.in-Some.field) left (field_bytes c.loop-rest.due (field_of c.in-Some.field) c.loop-rest.rest.now c.in-Some.behind.now c.in-Some.ensures) c.in_ok-keep.ensures) c.loop-rest.invariant)

pub returns : goal.returns
returns c =
    let none : c.loop-rest.rest.now ≡ [] = nil_from_length c.loop-rest.rest.now (grind (arith, c.loop-rest-test.ensures)) in
    λ fs h. c.from_vec-2.ensures ∙ sym (of_end _ c.args.frame.now c.loop-rest.due c.loop-rest.rest.now none c.loop-rest.invariant fs h ∙ append-nil _)
