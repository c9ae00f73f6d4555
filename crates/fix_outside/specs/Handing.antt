-- A message that is handed over, or that is to be sent again.
use Rattle.std.specs.Prelude.{ℕ, List, codes, ◌++◌, ◌∷◌, []}
use Rattle.fix_base.specs.Lists.{IsPrefixOf}
use Rattle.fix_outside.specs.declared.handing.Handed.{Handed}

-- the MsgType (35) that is named is the one that the body begins with
abbrev pub IsKindOf : List ℕ → List ℕ → Type 0
IsKindOf kind body = IsPrefixOf (codes "35=" ++ kind ++ 1 ∷ []) body

abbrev pub HasKind : Handed → Type 0
HasKind h = IsKindOf h.kind.now h.body.now
