use Rattle.std.proofs.Common.{◌≢◌, [], refl, ap, length, arith}
use Rattle.fix_fields.specs.Lent.{field_of}
use Rattle.fix_fields.proofs.BodyLemmas.{entry_to, entry_from, no_entry_fields}
use Rattle.fix_fields.proofs.bodies.are_entry_fields.Goals as goal

pub returns-in_default : goal.returns-in_default
returns-in_default c =
    let some : c.loop-rest.rest.now ≢ [] = λ e. grind (arith, ap length e) in
    (λ x. cc, λ h. absurd (no_entry_fields c.loop-rest.due c.loop-rest.rest.now c.in_default.ensures some (c.loop-rest.invariant.1 h)))

pub returns-then-not-is_entry_field : goal.returns-then-not-is_entry_field
returns-then-not-is_entry_field c =
    let some : c.loop-rest.rest.now ≢ [] = λ e. grind (arith, ap length e) in
    (λ x. cc, λ h. c.if-not-is_entry_field.ensures.1 (entry_from c.loop-rest.due (field_of c.in-Some.field) c.loop-rest.rest.now c.in-Some.behind.now c.in-Some.ensures some (c.loop-rest.invariant.1 h)).0)

pub loop-rest-preserved : goal.loop-rest-preserved
loop-rest-preserved c =
    let some : c.loop-rest.rest.now ≢ [] = λ e. grind (arith, ap length e) in (
      λ h. c.loop-rest.invariant.0 (entry_to c.loop-rest.due (field_of c.in-Some.field) c.loop-rest.rest.now c.in-Some.behind.now c.in-Some.ensures (c.if-not-is_entry_field.ensures.0 refl) (rw (← c.due_after-due.ensures) h)),
      λ h. rw c.due_after-due.ensures (entry_from c.loop-rest.due (field_of c.in-Some.field) c.loop-rest.rest.now c.in-Some.behind.now c.in-Some.ensures some (c.loop-rest.invariant.1 h)).1,
    )
