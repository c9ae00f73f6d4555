-- What one post of a draft does to a sender's pass.
use Rattle.std.specs.Prelude.{◌≡◌, ℕ, ◌∷◌, ◌++◌, []}
use Rattle.crossbeam_queue.specs.Passes.{view}
use Rattle.crossbeam_queue.specs.Fifo.{Held}
use Rattle.fix_fields.specs.Drafted.{DraftText}
use Rattle.fix_outbox.specs.declared.pass.SenderPass.{SenderPass}
use Rattle.fix_outbox.specs.Queue.{CanContain}
use Rattle.fix_outbox.specs.Passes.{posted, found, number_of, item}

-- a draft is posted, or is refused by an outbox of this capacity
pub data Posts (capacity : ℕ) (d : DraftText) (old new : SenderPass) : Type 0 where
  goes : found new ≡ found old ++ 0 ∷ [] → posted new ≡ posted old ++ item (number_of old) d ∷ []
      → Posts capacity d old new
  closed : found new ≡ found old ++ 1 ∷ [] → posted new ≡ posted old → Posts capacity d old new
  full : found new ≡ found old ++ 0 ∷ [] → Held capacity (CanContain (view old.place)) → posted new ≡ posted old
      → Posts capacity d old new
