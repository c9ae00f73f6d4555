-- Which calls of a disk in memory fail.
use Rattle.std.specs.Prelude.{◌⊎◌, ℕ, ◌≤◌, List, Contains, Option, Some, None}

-- from the first of them on all fail
abbrev pub IsBlown : Option ℕ → ℕ → Type 0
IsBlown None call = ⊥
IsBlown (Some first) call = first ≤ call

-- a call is listed, or stands at the fuse or after it
abbrev pub IsStruck : List ℕ → Option ℕ → ℕ → Type 0
IsStruck fail fuse call = Contains fail call ⊎ IsBlown fuse call
