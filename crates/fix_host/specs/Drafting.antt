-- Which bytes are the body of a draft.
use Rattle.std.specs.Prelude.{◌≡◌, ℕ, List}
use Rattle.fix_fields.specs.Drafted.{DraftText, IsDraft, draft_body}

-- no draft has this body
abbrev pub HasNoDraft : List ℕ → Type 0
HasNoDraft body = (d : DraftText) → IsDraft d → draft_body d ≡ body → ⊥
