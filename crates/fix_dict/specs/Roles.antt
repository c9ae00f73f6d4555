-- What a layout has a tag as, in one look-up, and the tags that it requires itself.
use Rattle.std.specs.Prelude.{◌≡◌, ℕ, ◌+◌, ◌<◌, Bool, true, false, ◌||◌, ◌==◌, List, [], ◌∷◌, ◌++◌, length}
use Rattle.std.specs.Prelude.{slice_index_or}
use Rattle.fix_fields.specs.Shapes.{Shapes, no_more, plain, group}
use Rattle.fix_fields.specs.NoTwice.{has_tag}
use Rattle.fix_dict.specs.declared.noted.Role.{Role}
use Rattle.fix_dict.specs.declared.noted.Role.TheVariants.{Absent, Plain, Grouped}

-- the tag is the count of a group, or of a field inside one
abbrev pub is_grouped : ℕ → Shapes → Bool
is_grouped t no_more = false
is_grouped t (plain u r ms) = is_grouped t ms
is_grouped t (group c r inner ms) = (t == c || has_tag t inner) || is_grouped t ms

abbrev pub role_by : Bool → Bool → Role
role_by true known = Grouped
role_by false true = Plain
role_by false false = Absent

abbrev pub role_of : Shapes → ℕ → Role
role_of layout tag = role_by (is_grouped tag layout) (has_tag tag layout)

abbrev pub is_known : Role → Bool
is_known Absent = false
is_known Plain = true
is_known Grouped = true

abbrev pub is_of_group : Role → Bool
is_of_group Absent = false
is_of_group Plain = false
is_of_group Grouped = true

-- the roles of the tags from 1 on
abbrev pub AreRoles : Shapes → List Role → Type 0
AreRoles layout roles = (i : ℕ) (d : Role) → i < length roles → slice_index_or roles i d ≡ role_of layout (i + 1)

abbrev pub required_one : ℕ → Bool → List ℕ
required_one tag true = tag ∷ []
required_one tag false = []

-- the required members, not those of groups inside, in their order
abbrev pub required_tags : Shapes → List ℕ
required_tags no_more = []
required_tags (plain t r ms) = required_one t r ++ required_tags ms
required_tags (group c r inner ms) = required_one c r ++ required_tags ms
