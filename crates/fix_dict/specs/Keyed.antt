-- Entries whose keys are lists of bytes, as lists.
use Rattle.std.specs.Prelude.{ℕ, List, [], ◌∷◌, Vec}
use Rattle.std.specs.declared.alloc.Global.{Global}

abbrev pub by_bytes : {X : Type 0} → List (Vec ℕ Global × X) → List (List ℕ × X)
by_bytes [] = []
by_bytes (e ∷ es) = (e.0.items, e.1) ∷ by_bytes es
