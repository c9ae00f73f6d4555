-- The messages of a dictionary: each type's layout.
use Rattle.std.specs.Prelude.{ℕ, ◌+◌, ◌&&◌, Bool, false, not, nat_le, if◌then◌else◌, List, [], ◌∷◌, length, codes}
use Rattle.std.specs.Prelude.{Option, Some, None, Result, Ok, Err}
use Rattle.std.specs.Ordering.{nat_cmp}
use Rattle.std.specs.Cmp.Lexicographic.{slice_cmp}
use Rattle.std.specs.FinMap as table
use Rattle.std.specs.FinSet as set
use Rattle.serde_json.specs.Data.{Data}
use Rattle.serde_json.specs.Find.{as_object}
use Rattle.fix_fields.specs.Shapes.{Shapes}
use Rattle.fix_fields.specs.Members.{shapes_of}
use Rattle.fix_fields.specs.Drafts.{has_soh}
use Rattle.fix_dict.specs.declared.fault.DictFault.{DictFault}
use Rattle.fix_dict.specs.declared.fault.DictFault.TheVariants.{BadShape, DuplicateType}
use Rattle.fix_dict.specs.Parts.{list_at, text_at}
use Rattle.fix_dict.specs.Faults.{and_then, inside, need}
use Rattle.fix_dict.specs.Fields.{FieldTable}
use Rattle.fix_dict.specs.Members.{judged_members, members_in}

-- each type's layout
abbrev pub MessageTable : Type 0
MessageTable = table.FinMap (slice_cmp nat_cmp) Shapes

-- so many groups may stand one in another
abbrev pub most_groups : ℕ
most_groups = 8

-- a MsgType (35): one to eight bytes, none of which is an SOH
abbrev pub is_type : List ℕ → Bool
is_type text = nat_le 1 (length text) && (nat_le (length text) 8 && not (has_soh text))

abbrev pub type_in : Option (List ℕ) → Option (List ℕ)
type_in None = None
type_in (Some text) = if is_type text then Some text else None

abbrev pub new_type : MessageTable → Option (List ℕ) → Result (List ℕ) DictFault
new_type before None = Err (BadShape (codes "type"))
new_type before (Some type) = if table.contains_key before type then Err (DuplicateType type) else Ok type

-- the layouts after a message's object, by those before
abbrev pub message_in : FieldTable → MessageTable → Data → Result MessageTable DictFault
message_in fields before d =
    and_then (need (as_object d) []) (λ _.
    and_then (new_type before (type_in (text_at (codes "type") d))) (λ type.
    and_then (need (text_at (codes "name") d) (codes "name")) (λ _.
    and_then (need (list_at (codes "members") d) (codes "members")) (λ ds.
    and_then (judged_members most_groups fields (codes "members") false set.empty ds) (λ _.
    Ok (table.insert before type (shapes_of (members_in most_groups ds))))))))

abbrev pub messages_in : FieldTable → ℕ → MessageTable → List Data → Result MessageTable DictFault
messages_in fields index before [] = Ok before
messages_in fields index before (d ∷ ds) = and_then (inside (codes "messages") index (message_in fields before d))
    (λ behind. messages_in fields (index + 1) behind ds)
