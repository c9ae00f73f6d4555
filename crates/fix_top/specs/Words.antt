-- The arguments of a program.
use Rattle.std.specs.Prelude.{◌≡◌, ℕ, List, [], ◌∷◌, codes}
use Rattle.fix_base.specs.declared.identity.Identity.{Identity}
use Rattle.fix_base.specs.Session.{IsValidIdentity, begin_string_of}
use Rattle.fix_top.specs.declared.words.Named.{Named}

-- these arguments name one session on the standard streams: `--stdio` BeginString SenderCompID
-- TargetCompID, as this end writes them in its messages (8, 49, 56)
pub record IsForm (words : List (List ℕ)) (id : Identity) : Type 0 where
  pub spelled : words ≡ codes "--stdio" ∷ begin_string_of id.begin ∷ id.sender ∷ id.target ∷ []
  pub valid : IsValidIdentity id

-- these arguments name no session
abbrev pub IsNoForm : List (List ℕ) → Type 0
IsNoForm words = (id : Identity) → IsForm words id → ⊥

-- who the session is between
abbrev pub identity_of : Named → Identity
identity_of n = record { begin = n.begin; sender = n.sender.now; target = n.target.now }
