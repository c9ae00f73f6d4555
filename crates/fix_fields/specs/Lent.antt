-- What a field that lends its value is.
use Rattle.fix_base.specs.Fields.{Field}
use Rattle.fix_fields.specs.declared.field.FieldRef.{FieldRef}

abbrev pub field_of : FieldRef → Field
field_of f = record { tag = f.tag; value = f.value.now }
