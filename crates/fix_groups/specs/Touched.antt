-- Whether the groups of a layout have anything to do with a message.
use Rattle.std.specs.Prelude.{ℕ, Bool, false, ◌||◌, ◌==◌, List}
use Rattle.std.specs.List.{list_any}
use Rattle.fix_fields.specs.Shapes.{Shapes, no_more, plain, group}
use Rattle.fix_fields.specs.NoTwice.{has_tag}
use Rattle.fix_groups.specs.Tagged.{Tagged}

-- a field counts the instances of the group, or has a tag of a member inside it
abbrev pub touches : ℕ → Shapes → List Tagged → Bool
touches count inner fs = list_any (λ f. f.tag == count || has_tag f.tag inner) fs

-- the same of any group among the members
abbrev pub touched : Shapes → List Tagged → Bool
touched no_more fs = false
touched (plain t r more) fs = touched more fs
touched (group c r inner more) fs = touches c inner fs || touched more fs

-- a field has this tag
abbrev pub has_field : ℕ → List Tagged → Bool
has_field tag fs = list_any (λ f. f.tag == tag) fs

-- a field has a tag of the layout
abbrev pub has_some : Shapes → List Tagged → Bool
has_some no_more fs = false
has_some (plain tag r more) fs = has_field tag fs || has_some more fs
has_some (group count r inner more) fs = has_field count fs || (has_some inner fs || has_some more fs)
