-- The counts of the groups whose runs go on.
use Rattle.std.specs.Prelude.{ℕ, Bool, false, ◌||◌, ◌==◌, if◌then◌else◌, List, [], ◌∷◌, ◌++◌, Option, Some, None}
use Rattle.fix_fields.specs.Shapes.{Shapes}
use Rattle.fix_groups.specs.Looked.{group_at, is_in}

abbrev pub contains : ℕ → List ℕ → Bool
contains c [] = false
contains c (d ∷ ds) = c == d || contains c ds

-- those whose runs a field with this tag goes on
abbrev pub kept : Shapes → ℕ → List ℕ → List ℕ
kept root t [] = []
kept root t (c ∷ cs) = if is_in root c t then c ∷ kept root t cs else kept root t cs

-- and where the field counts a group, its own run begins
abbrev pub passed_at : Option Shapes → ℕ → List ℕ → List ℕ
passed_at None t cs = cs
passed_at (Some g) t cs = cs ++ t ∷ []

abbrev pub passed : Shapes → ℕ → List ℕ → List ℕ
passed root t cs = passed_at (group_at t root) t (kept root t cs)

-- the owner whose run does not go on
abbrev pub left_out : Option ℕ → List ℕ → Option ℕ
left_out None cs = None
left_out (Some c) cs = if contains c cs then None else Some c
