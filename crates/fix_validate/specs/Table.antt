-- The faults of a field, by the fields before it (FIX, "Reject", SessionRejectReason).
use Rattle.std.specs.Prelude.{ℕ, Bool, not, ◌&&◌, ◌||◌, ◌==◌, nat_lt, List, [], ◌∷◌, ◌++◌, length, Option, Some}
use Rattle.std.specs.Prelude.{None, is_some}
use Rattle.std.specs.List.{list_any}
use Rattle.fix_base.specs.Fields.{Field}
use Rattle.fix_base.specs.Tags.{is_header_tag, is_trailer_tag}
use Rattle.fix_fields.specs.declared.kind.ValueKind.{ValueKind}
use Rattle.fix_fields.specs.Kinds.{IsValueOf}
use Rattle.fix_fields.specs.Shapes.{Shapes}
use Rattle.fix_fields.specs.NoTwice.{has_tag}
use Rattle.fix_groups.specs.Looked.{owner}
use Rattle.fix_dict.specs.Dictionary.{DictionarySeen, kind_of}
use Rattle.fix_dict.specs.Notes.{is_in_group}
use Rattle.fix_dict.specs.Roles.{is_of_group}
use Rattle.fix_dict.specs.declared.note.TagNote.{TagNote}
use Rattle.fix_dict.specs.declared.noted.Role.{Role}
use Rattle.fix_dict.specs.Allowed.{allows}
use Rattle.fix_validate.specs.Rows.{Row, fault_at, tested}

-- ---- what the rows ask

-- the dictionary names the tag
abbrev pub is_named : DictionarySeen → ℕ → Bool
is_named dictionary tag = is_some (kind_of dictionary tag)

-- a field has the tag
abbrev pub has_field : ℕ → List Field → Bool
has_field tag fs = list_any (λ f. f.tag == tag) fs

-- a group of the message, its header or its trailer has the tag as a member
abbrev pub is_member : Shapes → ℕ → Bool
is_member root tag = is_some (owner tag root)

-- a tag of the header, by the standard or by the dictionary
abbrev pub is_header : DictionarySeen → ℕ → Bool
is_header dictionary tag = is_header_tag tag || has_tag tag dictionary.header

-- a tag of the trailer, likewise
abbrev pub is_trailer : DictionarySeen → ℕ → Bool
is_trailer dictionary tag = is_trailer_tag tag || has_tag tag dictionary.trailer

-- a field that isn't of the header stands among these
abbrev pub has_left_header : DictionarySeen → List Field → Bool
has_left_header dictionary fs = list_any (λ f. not (is_header dictionary f.tag)) fs

-- a field of the trailer stands among these
abbrev pub has_trailer : DictionarySeen → List Field → Bool
has_trailer dictionary fs = list_any (λ f. is_trailer dictionary f.tag) fs

-- a header field after one that isn't, or a field that isn't of the trailer after one that is
abbrev pub is_misplaced : DictionarySeen → List Field → ℕ → Bool
is_misplaced dictionary before tag = (is_header dictionary tag && has_left_header dictionary before) ||
    (not (is_trailer dictionary tag) && has_trailer dictionary before)

-- a tag is the count of a group of the message, its header or its trailer, or of a field inside one
abbrev pub is_touching : TagNote → Role → Bool
is_touching note role = is_of_group role || (is_in_group note.header || is_in_group note.trailer)

-- a value that isn't one of the kind
abbrev pub IsNoValueOf : Option ValueKind → List ℕ → Type 0
IsNoValueOf None value = ⊥
IsNoValueOf (Some kind) value = IsValueOf kind value → ⊥

-- ---- the rows, of a message whose header, own members and trailer together are `root`

-- 0, Invalid tag number: a tag below 5000 that the dictionary doesn't name
abbrev pub invalid_tag_number : DictionarySeen → Field → Row
invalid_tag_number dictionary f = tested (nat_lt f.tag 5000 && not (is_named dictionary f.tag)) 0 f.tag

-- 4, Tag specified without a value
abbrev pub tag_without_value : Field → Row
tag_without_value f = tested (length f.value == 0) 4 f.tag

-- 2, Tag not defined for this message type, though the dictionary names it
abbrev pub tag_not_defined_here : DictionarySeen → Shapes → Field → Row
tag_not_defined_here dictionary root f = tested (is_named dictionary f.tag && not (has_tag f.tag root)) 2 f.tag

-- 13, Tag appears more than once, and no group has it as a member
abbrev pub tag_appears_again : Bool → Field → Row
tag_appears_again again f = tested again 13 f.tag

-- 14, Tag specified out of required order, where the order is asked for
abbrev pub tag_out_of_order : Bool → Field → Row
tag_out_of_order misplaced f = tested misplaced 14 f.tag

-- 6, Incorrect data format for value
abbrev pub incorrect_format : DictionarySeen → Field → Row
incorrect_format dictionary f = record { holds = IsNoValueOf (kind_of dictionary f.tag) f.value; fault = fault_at 6 f.tag }

-- 5, Value is incorrect (out of range) for this tag: values are listed, and this isn't one
abbrev pub value_out_of_range : DictionarySeen → Field → Row
value_out_of_range dictionary f = tested (not (allows dictionary f.tag f.value)) 5 f.tag

-- what a field is asked, in this order, where two things are known of those before it
abbrev pub field_rows_by : DictionarySeen → Shapes → Bool → Bool → Field → List Row
field_rows_by dictionary root again misplaced f =
    invalid_tag_number dictionary f
    ∷ tag_without_value f
    ∷ tag_not_defined_here dictionary root f
    ∷ tag_appears_again again f
    ∷ tag_out_of_order misplaced f
    ∷ incorrect_format dictionary f
    ∷ value_out_of_range dictionary f
    ∷ []

-- and after these fields
abbrev pub field_rows : DictionarySeen → Shapes → Bool → List Field → Field → List Row
field_rows dictionary root order before f = field_rows_by dictionary root (has_field f.tag before && not (is_member root f.tag))
    (order && is_misplaced dictionary before f.tag) f

-- field by field, each after these and those before it
abbrev pub fields_rows : DictionarySeen → Shapes → Bool → List Field → List Field → List Row
fields_rows dictionary root order before [] = []
fields_rows dictionary root order before (f ∷ fs) = field_rows dictionary root order before f
    ++ fields_rows dictionary root order (before ++ f ∷ []) fs
