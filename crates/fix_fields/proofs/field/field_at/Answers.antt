use Rattle.fix_base.proofs.FieldLists.{no_field_tag, no_field_value}
use Rattle.fix_fields.proofs.field.field_at.Goals as goal

pub returns-in_err-number : goal.returns-in_err-number
returns-in_err-number c = rw c.from_residual.ensures (no_field_tag c.args.due c.args.bytes.now c.in_err-number.ensures)

pub returns-in_err-value : goal.returns-in_err-value
returns-in_err-value c = rw c.from_residual-in_err-value.ensures (no_field_value c.args.due c.in_ok-number.number c.args.bytes.now c.in_ok-number.rest.now c.in_ok-number.ensures c.in_err-value.ensures)
