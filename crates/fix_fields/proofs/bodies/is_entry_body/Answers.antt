use Rattle.std.proofs.Common.{refl}
use Rattle.fix_fields.specs.Lent.{field_of}
use Rattle.fix_fields.proofs.BodyLemmas.{body_to, body_from, no_body}
use Rattle.fix_fields.proofs.bodies.is_entry_body.Goals as goal

pub returns-in_default : goal.returns-in_default
returns-in_default c = (λ x. cc, λ h. absurd (no_body c.args.body.now c.in_default.ensures h))

pub returns-then-is_type_field : goal.returns-then-is_type_field
returns-then-is_type_field c =
    let first = field_of c.in-Some.first in (
      λ t. body_to first c.args.body.now c.in-Some.rest.now c.in-Some.ensures (c.if-is_type_field.ensures.0 refl) (c.are_entry_fields.ensures.0 t),
      λ h. c.are_entry_fields.ensures.1 (body_from first c.args.body.now c.in-Some.rest.now c.in-Some.ensures h).1,
    )

pub returns-else-is_type_field : goal.returns-else-is_type_field
returns-else-is_type_field c =
    let first = field_of c.in-Some.first in
    let not = c.if-is_type_field.false in
    (λ t. cc, λ h. c.is_type_field.ensures.1 (body_from first c.args.body.now c.in-Some.rest.now c.in-Some.ensures h).0)
