-- The whole table of a message, and what a check of it answers.
use Rattle.std.specs.Prelude.{◌≡◌, ℕ, ⊤, Bool, List, [], ◌∷◌, ◌++◌, Option, Some, None, option_and_then}
use Rattle.fix_base.specs.Fields.{Field, FieldsAfter}
use Rattle.fix_base.specs.Says.{value_of, HasFields}
use Rattle.fix_base.specs.declared.fault.Fault.{Fault}
use Rattle.fix_fields.specs.Shapes.{Shapes}
use Rattle.fix_groups.specs.Joined.{joined}
use Rattle.fix_groups.specs.Tagged.{Tagged, all_tagged}
use Rattle.fix_dict.specs.Dictionary.{DictionarySeen, layout_of}
use Rattle.fix_validate.specs.Rows.{Row, Finds}
use Rattle.fix_validate.specs.Table.{fields_rows}
use Rattle.fix_validate.specs.Groups.{groups_rows}
use Rattle.fix_validate.specs.Required.{required_rows}

-- the members of a message with those of its header and trailer
abbrev pub whole : DictionarySeen → Shapes → Shapes
whole dictionary message = joined dictionary.header (joined message dictionary.trailer)

-- 11, Invalid MsgType
abbrev pub invalid_type : Row
invalid_type = record { holds = ⊤; fault = record { reason = 11; tag = None } }

-- the layout of a message with these fields, by its MsgType (35)
abbrev pub layout_for : DictionarySeen → List Field → Option Shapes
layout_for dictionary fs = option_and_then (layout_of dictionary) (value_of 35 fs)

-- the required tags of header, message and trailer
abbrev pub required_of_all : DictionarySeen → Shapes → List Tagged → List Row
required_of_all dictionary message fs =
    required_rows dictionary.header fs ++ (required_rows message fs ++ required_rows dictionary.trailer fs)

-- the table of a message with this layout: field by field, then the groups, then the required tags
abbrev pub rows_by : DictionarySeen → Bool → List Field → Option Shapes → List Row
rows_by dictionary order fs None = invalid_type ∷ []
rows_by dictionary order fs (Some message) =
    fields_rows dictionary (whole dictionary message) order [] fs
    ++ (groups_rows (whole dictionary message) (all_tagged fs)
    ++ required_of_all dictionary message (all_tagged fs))

abbrev pub rows : DictionarySeen → Bool → List Field → List Row
rows dictionary order fs = rows_by dictionary order fs (layout_for dictionary fs)

abbrev pub field_of_tag : ℕ → List ℕ → Field
field_of_tag tag value = record { tag = tag; value = value }

-- all fields of a frame: BeginString (8) and BodyLength (9), those of its body, and CheckSum (10)
pub record HasAllFields (frame : List ℕ) (fields : List Field) : Type 0 where
  pub begin : List ℕ
  pub long : List ℕ
  pub body : List Field
  pub sum : List ℕ
  pub has : HasFields frame body
  pub are : fields ≡ field_of_tag 8 begin ∷ field_of_tag 9 long ∷ body ++ field_of_tag 10 sum ∷ []
  pub spelled : FieldsAfter None frame fields

-- the answer is the first fault in the table of the frame's fields
pub record Checks (dictionary : DictionarySeen) (order : Bool) (frame : List ℕ) (answer : Option Fault) : Type 0 where
  pub fields : List Field
  pub all : HasAllFields frame fields
  pub first : Finds (rows dictionary order fields) answer
