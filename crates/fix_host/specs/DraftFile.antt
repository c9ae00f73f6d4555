-- A file of drafts.
use Rattle.std.specs.Prelude.{ℕ, List, [], ◌∷◌, ◌++◌}
use Rattle.fix_base.specs.Line.{body_text}
use Rattle.fix_fields.specs.Drafted.{DraftText, IsDraft, draft_body}

-- these are the drafts of the text: the body text of each is a line, which LF ends but at the end of the text; a
-- line with nothing in it says nothing
pub data AreDraftsOf : List ℕ → List DraftText → Type 0 where
  at_end : AreDraftsOf [] []
  empty_line : (text : List ℕ) (ds : List DraftText) → AreDraftsOf text ds → AreDraftsOf (10 ∷ text) ds
  last_line : (d : DraftText) → IsDraft d → AreDraftsOf (body_text (draft_body d)) (d ∷ [])
  draft_line : (d : DraftText) (text : List ℕ) (ds : List DraftText) → IsDraft d → AreDraftsOf text ds
      → AreDraftsOf (body_text (draft_body d) ++ 10 ∷ text) (d ∷ ds)
