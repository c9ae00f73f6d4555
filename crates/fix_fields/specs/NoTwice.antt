-- Layouts whose members can be told apart by their tags.
use Rattle.std.specs.Prelude.{ℕ, ◌≡◌, Bool, true, false, ◌||◌, ◌==◌}
use Rattle.fix_fields.specs.Shapes.{Shapes, no_more, plain, group}

-- the tag is a member's, or one of a group inside
abbrev pub has_tag : ℕ → Shapes → Bool
has_tag t no_more = false
has_tag t (plain u r ms) = t == u || has_tag t ms
has_tag t (group c r inner ms) = t == c || (has_tag t inner || has_tag t ms)

-- the first member is a plain field: it begins each instance of a group
abbrev pub IsLed : Shapes → Type 0
IsLed no_more = ⊥
IsLed (plain t r ms) = Unit {0}
IsLed (group c r inner ms) = ⊥

-- no tag stands twice, groups included, and each group begins with a plain field
abbrev pub HasNoTwice : Shapes → Type 0
HasNoTwice no_more = Unit {0}
HasNoTwice (plain t r ms) = (has_tag t ms ≡ false) × HasNoTwice ms
HasNoTwice (group c r inner ms) =
    (has_tag c inner ≡ false) × (has_tag c ms ≡ false) × ((u : ℕ) → has_tag u inner ≡ true → has_tag u ms ≡ false)
    × IsLed inner × HasNoTwice inner × HasNoTwice ms
