-- What a dictionary says of a tag alone, in one look-up.
use Rattle.std.specs.Prelude.{◌≡◌, ℕ, ◌+◌, ◌<◌, Bool, true, false, List, [], ◌∷◌, length, slice_index_or, Option}
use Rattle.std.specs.Prelude.{Some, None, option_map}
use Rattle.std.specs.FinMap as table
use Rattle.fix_base.specs.Tags.{is_header_tag, is_trailer_tag}
use Rattle.fix_fields.specs.Shapes.{Shapes}
use Rattle.fix_dict.specs.declared.rule.FieldRule.{FieldRule}
use Rattle.fix_dict.specs.declared.note.TagNote.{TagNote}
use Rattle.fix_dict.specs.declared.note.Standing.{Standing}
use Rattle.fix_dict.specs.declared.note.Standing.TheVariants.{Neither, Standard, Own, Grouped}
use Rattle.fix_dict.specs.declared.noted.Role.{Role}
use Rattle.fix_dict.specs.declared.noted.Role.TheVariants as role
use Rattle.fix_dict.specs.Roles.{role_of}
use Rattle.fix_dict.specs.Fields.{FieldTable}

abbrev pub is_some_text : List (List ℕ) → Bool
is_some_text [] = false
is_some_text (v ∷ vs) = true

-- values are listed
abbrev pub has_values : Option FieldRule → Bool
has_values None = false
has_values (Some rule) = is_some_text rule.values

-- a tag by what it is in the dictionary's own header or trailer, and whether it is one of the standard's
abbrev pub standing_of : Role → Bool → Standing
standing_of role.Grouped standard = Grouped
standing_of role.Plain standard = Own
standing_of role.Absent true = Standard
standing_of role.Absent false = Neither

abbrev pub is_any : Standing → Bool
is_any Neither = false
is_any Standard = true
is_any Own = true
is_any Grouped = true

abbrev pub is_own : Standing → Bool
is_own Neither = false
is_own Standard = false
is_own Own = true
is_own Grouped = true

-- as the count of a group, or inside one
abbrev pub is_in_group : Standing → Bool
is_in_group Neither = false
is_in_group Standard = false
is_in_group Own = false
is_in_group Grouped = true

-- the kind of the field, whether its values are listed, and whether the tag is one of the header or trailer
abbrev pub note_of : FieldTable → Shapes → Shapes → ℕ → TagNote
note_of fields header trailer tag = record {
  header = standing_of (role_of header tag) (is_header_tag tag);
  kind = option_map (λ r. r.kind) (table.get fields tag);
  trailer = standing_of (role_of trailer tag) (is_trailer_tag tag);
  has_values = has_values (table.get fields tag);
}

-- the notes of the tags from 1 on
abbrev pub AreNotes : FieldTable → Shapes → Shapes → List TagNote → Type 0
AreNotes fields header trailer notes = (i : ℕ) (d : TagNote) → i < length notes
    → slice_index_or notes i d ≡ note_of fields header trailer (i + 1)
