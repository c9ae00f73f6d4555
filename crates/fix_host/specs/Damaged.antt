-- Where a file is damaged.
use Rattle.std.specs.Prelude.{ℕ, List, Option, Some, None, ⊤}
use Rattle.fix_journal.specs.Format.{IsDamagedAt}

-- the file, if it is told, is damaged first at this place, if one is named
abbrev pub IsDamage : Option ℕ → Option (List ℕ) → Type 0
IsDamage None bytes = ⊤
IsDamage (Some place) None = ⊤
IsDamage (Some place) (Some file) = IsDamagedAt file place
