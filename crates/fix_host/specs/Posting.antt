-- What is known of a sender once its drafts were posted.
use Rattle.std.specs.Prelude.{◌≡◌, ◌⊎◌, ℕ, ◌<◌, List, [], ◌∷◌, ◌++◌, Option, Some, None, drop, replicate}
use Rattle.fix_fields.specs.Drafted.{DraftText}
use Rattle.fix_outbox.specs.declared.queue.Item.{Item}
use Rattle.fix_outbox.specs.Passes.{item}

-- these drafts, each posted once under this number
abbrev pub items_of : ℕ → List (Option DraftText) → List Item
items_of i [] = []
items_of i (None ∷ ds) = items_of i ds
items_of i (Some d ∷ ds) = item i d ∷ items_of i ds

-- the drafts after the first k were posted
abbrev pub left_of : ℕ → List (Option DraftText) → List (Option DraftText)
left_of k drafts = replicate k None ++ drop k drafts

-- what the loads of the closing word gave, one for each post: each found the outbox open
abbrev pub Loads : List ℕ → List ℕ → Type 0
Loads before after = (m : ℕ) × (after ≡ before ++ replicate m 0)

-- the same, and then one that found it closed
abbrev pub LoadsClosed : List ℕ → List ℕ → Type 0
LoadsClosed before after = (m : ℕ) × (after ≡ before ++ replicate m 0 ++ 1 ∷ [])

-- k of n drafts were posted: all, or the next one's post was told that the outbox is closed
abbrev pub PostsEnd : ℕ → ℕ → List ℕ → List ℕ → Type 0
PostsEnd k n before after = (k ≡ n) × Loads before after ⊎ (k < n) × LoadsClosed before after
