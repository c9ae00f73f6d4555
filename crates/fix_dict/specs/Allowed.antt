-- Which values a dictionary allows a field to have.
use Rattle.std.specs.Prelude.{ℕ, Bool, true, ◌==◌, if◌then◌else◌, List, [], ◌∷◌, ◌++◌, bytes_eq, Option, Some, None}
use Rattle.std.specs.List.{list_any, list_all}
use Rattle.std.specs.FinMap as table
use Rattle.fix_fields.specs.declared.kind.ValueKind.{ValueKind}
use Rattle.fix_fields.specs.declared.kind.ValueKind.TheVariants.{MultipleValueString}
use Rattle.fix_dict.specs.declared.rule.FieldRule.{FieldRule}
use Rattle.fix_dict.specs.Dictionary.{DictionarySeen}

abbrev pub is_listed : List (List ℕ) → List ℕ → Bool
is_listed values value = list_any (λ v. bytes_eq v value) values

-- the parts between spaces (32), of which the first begins with these bytes
abbrev pub parts_behind : List ℕ → List ℕ → List (List ℕ)
parts_behind part [] = part ∷ []
parts_behind part (b ∷ bs) = if b == 32 then part ∷ parts_behind [] bs else parts_behind (part ++ b ∷ []) bs

abbrev pub parts_of : List ℕ → List (List ℕ)
parts_of value = parts_behind [] value

-- each part of a MultipleValueString is asked for, and else the whole value
abbrev pub allowed_parts : ValueKind → List (List ℕ) → List ℕ → Bool
allowed_parts MultipleValueString values value = list_all (is_listed values) (parts_of value)
allowed_parts _ values value = is_listed values value

abbrev pub is_allowed_by : ValueKind → List (List ℕ) → List ℕ → Bool
is_allowed_by kind [] value = true
is_allowed_by kind (v ∷ vs) value = allowed_parts kind (v ∷ vs) value

abbrev pub allowed : Option FieldRule → List ℕ → Bool
allowed None value = true
allowed (Some rule) value = is_allowed_by rule.kind rule.values value

-- every value is allowed where no values are listed for the tag
abbrev pub allows : DictionarySeen → ℕ → List ℕ → Bool
allows dictionary tag value = allowed (table.get dictionary.fields tag) value
