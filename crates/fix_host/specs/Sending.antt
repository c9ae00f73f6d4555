-- What is known of a sender of a file's drafts.
use Rattle.std.specs.Prelude.{◌≡◌, ℕ, ◌≤◌, List, length, map, take}
use Rattle.fix_fields.specs.Drafted.{DraftText}
use Rattle.fix_outbox.specs.declared.pass.SenderPass.{SenderPass}
use Rattle.fix_outbox.specs.Passes.{number_of, posted, item}
use Rattle.fix_host.specs.DraftFile.{AreDraftsOf}

-- the text has so many drafts, and the pass has posted the first `sent` of them and nothing else
abbrev pub HasSent : SenderPass → (file : List ℕ) → (drafts sent : ℕ) → Type 0
HasSent pass file drafts sent =
    (ds : List DraftText) × AreDraftsOf file ds × (length ds ≡ drafts) × (sent ≤ drafts)
    × (posted pass ≡ map (item (number_of pass)) (take sent ds))
