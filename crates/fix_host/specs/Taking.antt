-- What is seen of an application that takes its drafts from an outbox.
use Rattle.std.specs.Prelude.{◌≡◌, ℕ, ◌+◌, ◌∷◌, ◌++◌, [], List, Option, Some, None, map, min}
use Rattle.std.specs.Arc.{arc_value}
use Rattle.crossbeam_queue.specs.Passes.{view}
use Rattle.crossbeam_queue.specs.Fifo.{Held}
use Rattle.fix_base.specs.Trace.{LAST_COUNT}
use Rattle.fix_fields.specs.Drafted.{DraftText, draft_body}
use Rattle.fix_outbox.specs.declared.pass.Outbox.{Outbox}
use Rattle.fix_outbox.specs.declared.pass.TakerPass.{TakerPass}
use Rattle.fix_outbox.specs.Queue.{CanContain}
use Rattle.fix_outbox.specs.Passes.{taken, item, draft_of}
use Rattle.fix_parts.specs.App.{AppSeen}
use Rattle.fix_host.specs.declared.taking.TakeApp.{TakeApp}

-- the application that messages are handed to
abbrev pub handed_to : {R A : Type 0} → TakeApp R A → A
handed_to t = t.inner

abbrev pub outbox_of : {R A : Type 0} → TakeApp R A → Outbox
outbox_of t = arc_value t.outbox

abbrev pub taker_of : {R A : Type 0} → TakeApp R A → TakerPass
taker_of t = t.taker

-- how often it was asked and had none
abbrev pub empty_of : {R A : Type 0} → TakeApp R A → ℕ
empty_of t = t.empty

-- the bodies of the drafts that were taken
abbrev pub taken_bodies : TakerPass → List (List ℕ)
taken_bodies pass = map (λ x. draft_body (draft_of x)) (taken pass)

-- what is seen of it, where this is seen of the application that messages are handed to: the drafts that it gave
-- are those that were taken
abbrev pub take_seen : TakerPass → AppSeen → AppSeen
take_seen pass inner = record {
  given = inner.given;
  lines = inner.lines;
  room = inner.room;
  asked = Some (taken_bodies pass);
  to_ask = None;
  faults = inner.faults;
}

-- the outbox may have held nothing at a moment, as far as the pass knows
abbrev pub MayBeEmpty : TakerPass → Type 0
MayBeEmpty pass = Held 0 (CanContain (view pass.place))

-- a draft that it gives is the next one taken; none is that the outbox may have held nothing
abbrev pub TakesNext : Option DraftText → (old new : TakerPass) → Type 0
TakesNext None old new = (taken new ≡ taken old) × MayBeEmpty old
TakesNext (Some draft) old new = (sender : ℕ) × (taken new ≡ taken old ++ item sender draft ∷ [])

-- one more where there was none, up to the last count
abbrev pub empty_after : Option DraftText → ℕ → ℕ
empty_after None count = min (count + 1) LAST_COUNT
empty_after (Some draft) count = count
