-- Fields whose values have no SOH and of which none announces data are a list of fields as they are
-- written.
use Rattle.std.proofs.Common.{◌≡◌, ℕ, ◌≤◌, List, [], ◌∷◌, Option, Some, None, refl, sym, ap, subst}
use Rattle.std.specs.Prelude.{option_and_then, if◌then◌else◌}
use Rattle.std.specs.List.{AllByRecursion}
use Rattle.std.specs.Str.Parse.{digits_value}
use Rattle.fix_base.specs.Frame.{HasNoSoh}
use Rattle.fix_base.specs.Tags.{data_tag}
use Rattle.fix_base.specs.Fields.{Field, FieldsAfter, data_after, is_data_length}
use Rattle.fix_base.specs.Says.{field_text, fields_text}

-- a field that may be written and read by itself
pub record IsPlainField (f : Field) : Type 0 where
  pub first : 1 ≤ f.tag
  pub last : f.tag ≤ 999999999
  pub no_soh : HasNoSoh f.value
  pub no_length : data_tag f.tag ≡ None

pub plain_announces_nothing : (f : Field) → data_tag f.tag ≡ None → data_after f ≡ None
plain_announces_nothing f e =
    ap (option_and_then (λ (tag : ℕ). if is_data_length f.value then Some (tag, digits_value 10 f.value) else None)) e

pub plain_fields : (fs : List Field) → AllByRecursion IsPlainField fs → FieldsAfter None (fields_text fs) fs
plain_fields [] each = refl
plain_fields (f ∷ fs) each = (
  field_text f,
  fields_text fs,
  record { first = each.0.first; last = each.0.last; value = each.0.no_soh; spelled = refl },
  refl,
  subst (λ (due : Option (ℕ × ℕ)). FieldsAfter due (fields_text fs) fs) (sym (plain_announces_nothing f each.0.no_length)) (plain_fields fs each.1),
)
