-- Look-ups in a layout.
use Rattle.std.specs.Prelude.{ℕ, Bool, false, ◌||◌, ◌==◌, if◌then◌else◌, Option, Some, None}
use Rattle.fix_fields.specs.Shapes.{Shapes, no_more, plain, group}
use Rattle.fix_fields.specs.NoTwice.{has_tag}

abbrev pub or_else : {A : Type 0} → Option A → Option A → Option A
or_else (Some x) b = Some x
or_else None b = b

-- the members of the group whose count has the tag, however deep it stands
abbrev pub group_at : ℕ → Shapes → Option Shapes
group_at t no_more = None
group_at t (plain u r ms) = group_at t ms
group_at t (group c r inner ms) = if t == c then Some inner else or_else (group_at t inner) (group_at t ms)

-- the tag is a member's at this level
abbrev pub at_level : ℕ → Shapes → Bool
at_level t no_more = false
at_level t (plain u r ms) = t == u || at_level t ms
at_level t (group c r inner ms) = t == c || at_level t ms

-- the count of the group that has the tag as a member
abbrev pub owner : ℕ → Shapes → Option ℕ
owner t no_more = None
owner t (plain u r ms) = owner t ms
owner t (group c r inner ms) = if at_level t inner then Some c else or_else (owner t inner) (owner t ms)

abbrev pub some_has : ℕ → Option Shapes → Bool
some_has t None = false
some_has t (Some g) = has_tag t g

-- the tag is one of the group whose count is c, or of a group inside it
abbrev pub is_in : Shapes → ℕ → ℕ → Bool
is_in root c t = some_has t (group_at c root)
