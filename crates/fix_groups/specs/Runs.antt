-- The run of a group, and what is asked of it.
use Rattle.std.specs.Prelude.{ℕ, ◌+◌, Bool, true, false, ◌==◌, if◌then◌else◌, List, [], ◌∷◌, Option, Some, None}
use Rattle.fix_fields.specs.Shapes.{Shapes, no_more, plain, group}
use Rattle.fix_fields.specs.NoTwice.{has_tag}
use Rattle.fix_groups.specs.Looked.{or_else, at_level}
use Rattle.fix_groups.specs.Tagged.{Tagged}

-- the longest run of fields at the front whose tags are members of the group or of a group inside it
abbrev pub run_of : Shapes → List Tagged → List Tagged
run_of g [] = []
run_of g (f ∷ fs) = if has_tag f.tag g then f ∷ run_of g fs else []

-- the tag of the first member, the delimiter: it begins each instance
abbrev pub lead : Shapes → ℕ
lead no_more = 0
lead (plain t r ms) = t
lead (group c r inner ms) = c

abbrev pub behind_lead : Shapes → Shapes
behind_lead no_more = no_more
behind_lead (plain t r ms) = ms
behind_lead (group c r inner ms) = ms

-- how many instances begin
abbrev pub starts : Shapes → List Tagged → ℕ
starts g [] = 0
starts g (f ∷ fs) = if f.tag == lead g then starts g fs + 1 else starts g fs

-- a run that is not empty begins with the delimiter
abbrev pub begins_well : Shapes → List Tagged → Bool
begins_well g [] = true
begins_well g (f ∷ fs) = f.tag == lead g

-- the members after that of the tag
abbrev pub behind : ℕ → Shapes → Option Shapes
behind t no_more = None
behind t (plain u r ms) = if t == u then Some ms else behind t ms
behind t (group c r inner ms) = if t == c then Some ms else behind t ms

-- the members that may still come in the instance after a field, or None where it stands out of
-- order; a tag of a group inside changes nothing
abbrev pub left_after : Shapes → Shapes → ℕ → Option Shapes
left_after g left t = if t == lead g then Some (behind_lead g) else or_else (behind t left)
    (if at_level t g then None else Some left)

-- the answer where there is none is no
abbrev pub if_some : Option Shapes → (Shapes → Bool) → Bool
if_some None p = false
if_some (Some x) p = p x

-- the fields stand in the order of the members, where these are left
abbrev pub in_order : Shapes → Shapes → List Tagged → Bool
in_order g left [] = true
in_order g left (f ∷ fs) = if_some (left_after g left f.tag) (λ more. in_order g more fs)
