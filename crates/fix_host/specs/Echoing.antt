-- What is seen of an application that sends back what it takes.
use Rattle.std.specs.Prelude.{◌≡◌, ◌≢◌, ℕ, List}
use Rattle.fix_fields.specs.Drafted.{DraftText, draft_body}
use Rattle.fix_outbox.specs.declared.pass.SenderPass.{SenderPass}
use Rattle.fix_outside.specs.declared.handing.Said.{Said}
use Rattle.fix_outside.specs.declared.handing.Said.TheVariants as said
use Rattle.fix_host.specs.declared.taking.TakeApp.{TakeApp}
use Rattle.fix_host.specs.declared.echoing.EchoApp.{EchoApp}
use Rattle.fix_host.specs.Drafting.{HasNoDraft}
use Rattle.fix_host.specs.Posts.{Posts}

-- it takes its drafts as this one does
abbrev pub takes_by : {R A : Type 0} → EchoApp R A → TakeApp R A
takes_by e = e.take

abbrev pub sender_of : {R A : Type 0} → EchoApp R A → SenderPass
sender_of e = e.sender

-- what a hand-over of a message with this body does: one that is taken is posted as a draft with the same body,
-- where there is one
pub data Echoes (capacity : ℕ) (body : List ℕ) (turn : Said) (old new : SenderPass) : Type 0 where
  echoed : (d : DraftText) → turn ≡ said.Taken → draft_body d ≡ body → Posts capacity d old new
      → Echoes capacity body turn old new
  without : turn ≡ said.Taken → HasNoDraft body → new ≡ old → Echoes capacity body turn old new
  not_taken : turn ≢ said.Taken → new ≡ old → Echoes capacity body turn old new
