-- Whether the members of a layout can be told apart by their tags, as it is tried.
use Rattle.std.specs.Prelude.{Bool, true, false, ◌||◌, if◌then◌else◌}
use Rattle.fix_fields.specs.Shapes.{Shapes, no_more, plain, group}
use Rattle.fix_fields.specs.NoTwice.{has_tag}

-- a tag of the first stands in the second
abbrev pub shares_a_tag : Shapes → Shapes → Bool
shares_a_tag no_more ms = false
shares_a_tag (plain t r other) ms = has_tag t ms || shares_a_tag other ms
shares_a_tag (group c r inner other) ms = has_tag c ms || (shares_a_tag inner ms || shares_a_tag other ms)

abbrev pub begins_plain : Shapes → Bool
begins_plain no_more = false
begins_plain (plain t r ms) = true
begins_plain (group c r inner ms) = false

abbrev pub has_distinct_tags : Shapes → Bool
has_distinct_tags no_more = true
has_distinct_tags (plain t r ms) = if has_tag t ms then false else has_distinct_tags ms
has_distinct_tags (group c r inner ms) =
    if has_tag c inner then false
    else (if has_tag c ms then false else
    (if shares_a_tag inner ms then false else
    (if begins_plain inner then (if has_distinct_tags inner then has_distinct_tags ms else false) else false)))
