-- The required fields that are missing.
use Rattle.std.specs.Prelude.{ℕ, Bool, true, not, ◌&&◌, ◌==◌, if◌then◌else◌, List, [], ◌∷◌, ◌++◌}
use Rattle.std.specs.List.{list_any}
use Rattle.fix_fields.specs.Shapes.{Shapes, no_more, plain, group}
use Rattle.fix_groups.specs.Tagged.{Tagged}
use Rattle.fix_groups.specs.Runs.{run_of, lead}
use Rattle.fix_validate.specs.Rows.{Row, tested}

-- a field has the tag
abbrev pub is_there : ℕ → List Tagged → Bool
is_there tag fs = list_any (λ f. f.tag == tag) fs

-- 1, Required tag missing
abbrev pub required_tag_missing : ℕ → Bool → List Tagged → Row
required_tag_missing tag required fs = tested (required && not (is_there tag fs)) 1 tag

-- the fields before the next delimiter, and from there on
abbrev pub up_to : ℕ → List Tagged → List Tagged
up_to delimiter [] = []
up_to delimiter (f ∷ fs) = if f.tag == delimiter then [] else f ∷ up_to delimiter fs

-- the instances of a run: each is a delimiter with the fields up to the next
abbrev pub instances_of : ℕ → List Tagged → List (List Tagged)
instances_of delimiter [] = []
instances_of delimiter (f ∷ fs) = if f.tag == delimiter then
    (f ∷ up_to delimiter fs) ∷ instances_of delimiter fs else instances_of delimiter fs

-- those of each run of the group with this count
abbrev pub instances_in : ℕ → Shapes → List Tagged → List (List Tagged)
instances_in count g [] = []
instances_in count g (f ∷ fs) = if f.tag == count then instances_of (lead g) (run_of g fs)
    ++ instances_in count g fs else instances_in count g fs

-- the rows of each of the lists
abbrev pub rows_of_each : (List Tagged → List Row) → List (List Tagged) → List Row
rows_of_each rows [] = []
rows_of_each rows (fs ∷ more) = rows fs ++ rows_of_each rows more

-- those of required tags, one by one
abbrev pub tag_rows : List ℕ → List Tagged → List Row
tag_rows [] fs = []
tag_rows (t ∷ ts) fs = required_tag_missing t true fs ∷ tag_rows ts fs

-- the members in their order; those of a group at the group's place, instance by instance
abbrev pub required_rows : Shapes → List Tagged → List Row
required_rows no_more fs = []
required_rows (plain tag required more) fs = required_tag_missing tag required fs ∷ required_rows more fs
required_rows (group count required inner more) fs =
    required_tag_missing count required fs ∷ (rows_of_each (required_rows inner) (instances_in count inner fs)
    ++ required_rows more fs)
