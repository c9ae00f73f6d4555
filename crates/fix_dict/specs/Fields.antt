-- The fields of a dictionary: each tag's kind and the values that it lists.
use Rattle.std.specs.Prelude.{ℕ, ◌+◌, if◌then◌else◌, List, [], ◌∷◌, ◌++◌, codes, Option, Some, None}
use Rattle.std.specs.Prelude.{option_and_then, Result, Ok, Err}
use Rattle.std.specs.Ordering.{nat_cmp}
use Rattle.std.specs.FinMap as table
use Rattle.serde_json.specs.Data.{Data}
use Rattle.serde_json.specs.Find.{get, as_str, as_object}
use Rattle.fix_fields.specs.declared.kind.ValueKind.{ValueKind}
use Rattle.fix_dict.specs.declared.fault.DictFault.{DictFault}
use Rattle.fix_dict.specs.declared.fault.DictFault.TheVariants.{BadShape, DuplicateTag}
use Rattle.fix_dict.specs.declared.rule.FieldRule.{FieldRule}
use Rattle.fix_dict.specs.Parts.{list_in, text_at, tag_at}
use Rattle.fix_dict.specs.KindNames.{kind_named}
use Rattle.fix_dict.specs.Faults.{and_then, inside, need}

-- each tag's rule
abbrev pub FieldTable : Type 0
FieldTable = table.FinMap nat_cmp FieldRule

abbrev pub kind_at : List ℕ → Data → Option ValueKind
kind_at name d = option_and_then kind_named (text_at name d)

-- a text that isn't empty
abbrev pub some_text : Option (List ℕ) → Result (List ℕ) DictFault
some_text None = Err (BadShape [])
some_text (Some []) = Err (BadShape [])
some_text (Some (b ∷ bs)) = Ok (b ∷ bs)

-- the texts of an array, after those before
abbrev pub texts_in : ℕ → List (List ℕ) → List Data → Result (List (List ℕ)) DictFault
texts_in index before [] = Ok before
texts_in index before (d ∷ ds) = and_then (inside (codes "values") index (some_text (as_str d)))
    (λ text. texts_in (index + 1) (before ++ text ∷ []) ds)

abbrev pub listed_values : Option (List Data) → Result (List (List ℕ)) DictFault
listed_values None = Err (BadShape (codes "values"))
listed_values (Some ds) = texts_in 0 [] ds

-- no values are listed where there is no array
abbrev pub values_in : Option Data → Result (List (List ℕ)) DictFault
values_in None = Ok []
values_in (Some d) = listed_values (list_in d)

abbrev pub field_tag : FieldTable → Option ℕ → Result ℕ DictFault
field_tag before None = Err (BadShape (codes "tag"))
field_tag before (Some tag) = if table.contains_key before tag then Err (DuplicateTag tag) else Ok tag

-- the rules after a field's object, by those before
abbrev pub field_in : FieldTable → Data → Result FieldTable DictFault
field_in before d =
    and_then (need (as_object d) []) (λ _.
    and_then (field_tag before (tag_at (codes "tag") d)) (λ tag.
    and_then (need (text_at (codes "name") d) (codes "name")) (λ _.
    and_then (need (kind_at (codes "type") d) (codes "type")) (λ kind.
    and_then (values_in (get (codes "values") d)) (λ values.
    Ok (table.insert before tag (record { kind = kind; values = values })))))))

abbrev pub fields_in : ℕ → FieldTable → List Data → Result FieldTable DictFault
fields_in index before [] = Ok before
fields_in index before (d ∷ ds) = and_then (inside (codes "fields") index (field_in before d))
    (λ behind. fields_in (index + 1) behind ds)
