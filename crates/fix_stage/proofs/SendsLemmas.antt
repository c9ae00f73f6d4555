-- Sending keeps entries and writes, and does nothing else; a draft in hand was tried only where the store failed.
use Rattle.std.proofs.Common.{◌≡◌, ℕ, if◌then◌else◌, List, [], ◌∷◌, ◌++◌, Bool, true, false, Option, Some, None, Result, Ok, Err}
use Rattle.std.proofs.Common.{refl, sym, subst}
use Rattle.std.specs.Prelude.{⊤}
use Rattle.std.specs.List.{AllByRecursion}
use Rattle.fix_base.specs.declared.identity.Identity.{Identity}
use Rattle.fix_base.specs.declared.entry.Entry.{Entry}
use Rattle.fix_base.specs.Payload.{IsPersistentEntry}
use Rattle.fix_outside.specs.Calls.{Call}
use Rattle.fix_fields.proofs.DraftBodies.{draft_payload}
use Rattle.fix_fields.specs.Drafted.{DraftText}
use Rattle.fix_stage.specs.Combine as combine
use Rattle.fix_stage.specs.Combine.{Each, AndThen}
use Rattle.fix_stage.specs.Stage.{size_in_stage}
use Rattle.fix_stage.specs.Sender.{Sender, PendingDraft, StageFault, due_number, no_draft, kept_draft}
use Rattle.fix_stage.specs.declared.fault.StageFault.TheVariants as fault
use Rattle.fix_stage.specs.Flush as flush
use Rattle.fix_stage.specs.Flush.{Flushed, Settled, WroteOne}
use Rattle.fix_stage.specs.Outgoing.{Outgoing, draft_outgoing}
use Rattle.fix_stage.specs.Staging as staging
use Rattle.fix_stage.specs.Staging.{Numbered, Roomy, Put, Staging, MakesAndStages, StagesPending}
use Rattle.fix_stage.specs.Sendings as sending
use Rattle.fix_stage.specs.Sendings.{IsSending, SendsOnly, IsUntried}
use Rattle.fix_stage.specs.Stated.{IsTimely}
use Rattle.fix_stage.proofs.StageLemmas.{all-push}
use Rattle.fix_stage.proofs.SendingLemmas.{in_hand_is}

pub all-append : {A : Type 0} (P : A → Type 0) (xs ys : List A) → AllByRecursion P xs → AllByRecursion P ys → AllByRecursion P (xs ++ ys)
all-append P [] ys h k = k
all-append P (x ∷ xs) ys h k = (h.0, all-append P xs ys h.1 k)

-- ---- which calls are made

module _ (Q : Entry → Type 0) where
  frames_send : (frames : List (Option (List ℕ))) (calls : List Call) (r : Result ⊤ StageFault) (u : ⊤) → Each WroteOne tt frames calls r u → AllByRecursion (IsSending Q) calls
  frames_send [] calls r u combine.none = tt
  frames_send (None ∷ frames) calls r u (combine.ends d) = elim d [ ]
  frames_send (None ∷ frames) calls r u (combine.goes {more = more} flush.no_frame rest) = frames_send frames more r u rest
  frames_send (Some text ∷ frames) calls r u (combine.ends (flush.write_lost t sent)) = (sending.writes _ _, tt)
  frames_send (Some text ∷ frames) calls r u (combine.ends (flush.write_memory t)) = (sending.writes _ _, tt)
  frames_send (Some text ∷ frames) calls r u (combine.goes {more = more} (flush.wrote t) rest) = (sending.writes _ _, frames_send frames more r u rest)

  pub Flushed-sends : (k : ℕ) (b : Sender) (calls : List Call) (r : Result ⊤ StageFault) (to : Sender) → AllByRecursion Q b.stage.entries → Flushed k b calls r to → SendsOnly Q calls to
  Flushed-sends k b calls r to all (flush.nothing_due h) = record { each = tt; staged = tt }
  Flushed-sends k b calls r to all (flush.not_kept h flush.keep_lost) = record { each = (sending.keeps b.stage.entries k _ all, tt); staged = tt }
  Flushed-sends k b calls r to all (flush.not_kept h flush.keep_memory) = record { each = (sending.keeps b.stage.entries k _ all, tt); staged = tt }
  Flushed-sends k b calls r to all (flush.kept_and_written {more = more} h flush.kept w) =
      record { each = (sending.keeps b.stage.entries k _ all, frames_send b.stage.frames more r tt w); staged = tt }

  pub Settled-sends : (b : Sender) (calls : List Call) (r : Result ⊤ StageFault) (to : Sender) → AllByRecursion Q b.stage.entries → Settled b calls r to → SendsOnly Q calls to
  Settled-sends b calls r to all d = Flushed-sends (due_number b.numbers) b calls r to all d

  -- only such calls come of it
  abbrev Sending : (Sender → List Call → Result ⊤ StageFault → Sender → Type 0) → Type 0
  Sending R = (b : Sender) (calls : List Call) (r : Result ⊤ StageFault) (to : Sender) → AllByRecursion Q b.stage.entries → R b calls r to → SendsOnly Q calls to

  then_sends : (A B : Sender → List Call → Result ⊤ StageFault → Sender → Type 0) → Sending A → Sending B → Sending (AndThen A B)
  then_sends A B one other b calls r to all (combine.first_ends {e = e} d) = one b calls (Err e) to all d
  then_sends A B one other b calls r to all (combine.both {mid = mid} {first = first} {more = more} d k) =
      let x = one b first (Ok tt) mid all d in
      let y = other mid more r to x.staged k in
      record { each = all-append (IsSending Q) first more x.each y.each; staged = y.staged }

  numbered_sends : Sending Numbered
  numbered_sends b calls r to all (staging.has_number h) = record { each = tt; staged = all }
  numbered_sends b calls r to all (staging.spent h d) = Flushed-sends 0 b calls (Ok tt) to all d
  numbered_sends b calls r to all (staging.spent_fault {e = e} h d) = Flushed-sends 0 b calls (Err e) to all d

  roomy_sends : (size : ℕ) → Sending (Roomy size)
  roomy_sends size b calls r to all (staging.fits h) = record { each = tt; staged = all }
  roomy_sends size b calls r to all (staging.full h d) = Flushed-sends 0 b calls r to all d

  put_sends : (id : Identity) (m : Outgoing) → Q m.entry → Sending (Put id m)
  put_sends id m q b calls r to all (staging.put frame is f) = record { each = tt; staged = all-push Q b.stage.entries m.entry all q }
  put_sends id m q b calls r to all staging.put_memory = record { each = tt; staged = all }

  pub Staging-sends : (id : Identity) (m : Outgoing) → Q m.entry → (b : Sender) (calls : List Call) (r : Result ⊤ StageFault) (to : Sender) → AllByRecursion Q b.stage.entries → Staging id m b calls r to → SendsOnly Q calls to
  Staging-sends id m q b calls r to all d =
      then_sends Numbered (AndThen (Roomy (size_in_stage m.entry)) (Put id m)) numbered_sends
      (then_sends (Roomy (size_in_stage m.entry)) (Put id m) (roomy_sends _) (put_sends id m q)) b calls r to all d

  pub MakesAndStages-sends : (id : Identity) (m : Outgoing) → Q m.entry → (b : Sender) (calls : List Call) (r : Result ⊤ StageFault) (to : Sender) → AllByRecursion Q b.stage.entries → MakesAndStages id m b calls r to → SendsOnly Q calls to
  MakesAndStages-sends id m q b calls r to all (staging.made d) = Staging-sends id m q b calls r to all d
  MakesAndStages-sends id m q b calls r to all staging.not_made = record { each = tt; staged = all }

  -- where the entry of whatever draft is in hand has Q
  pub StagesPending-sends : (id : Identity) (b : Sender) → ((d : DraftText) → b.pending.draft ≡ Some d → Q (draft_outgoing b.numbers.reading d true).entry) → (calls : List Call) (r : Result ⊤ StageFault) (to : Sender) → AllByRecursion Q b.stage.entries → StagesPending id b calls r to → SendsOnly Q calls to
  StagesPending-sends id b q calls r to all (staging.empty h) = record { each = tt; staged = all }
  StagesPending-sends id b q calls r to all (staging.draft_memory d h) = record { each = tt; staged = all }
  StagesPending-sends id b q calls r to all (staging.not_staged {e = e} d h k) = MakesAndStages-sends id _ (q d h) b calls (Err e) to all k
  StagesPending-sends id b q calls r to all (staging.draft_staged {to = mid} d h k) =
      let later = MakesAndStages-sends id _ (q d h) b calls (Ok tt) mid all k in record { each = later.each; staged = later.staged }

-- the entry of a draft may be sent again
pub drafts_send : (id : Identity) (b : Sender) → IsTimely b → (calls : List Call) (r : Result ⊤ StageFault) (to : Sender) → AllByRecursion IsPersistentEntry b.stage.entries → StagesPending id b calls r to → SendsOnly IsPersistentEntry calls to
drafts_send id b ok calls r to all d =
    StagesPending-sends IsPersistentEntry id b (λ x h. record { payload = draft_payload x b.numbers.reading (in_hand_is b.pending x ok.draft h) ok.reading; kept = tt }) calls r to all d

-- ---- a draft that was tried

kept_untried : (p : PendingDraft) (t : Bool) → p.staged ≡ t → p.store_failed ≡ false → (kept_draft p).store_failed ≡ false
kept_untried p true h untried = subst (λ t. (if t then no_draft else p).store_failed ≡ false) (sym h) refl
kept_untried p false h untried = subst (λ t. (if t then no_draft else p).store_failed ≡ false) (sym h) untried

as_it_is : (r : Result ⊤ StageFault) (p : PendingDraft) → p.store_failed ≡ false → IsUntried r p
as_it_is (Ok x) p h = h
as_it_is (Err fault.NumbersSpent) p h = h
as_it_is (Err fault.OutOfMemory) p h = h
as_it_is (Err fault.StoreFault) p h = tt
as_it_is (Err fault.LinkFault) p h = h

pub Flushed-untried : (k : ℕ) (b : Sender) (calls : List Call) (r : Result ⊤ StageFault) (to : Sender) → b.pending.store_failed ≡ false → Flushed k b calls r to → IsUntried r to.pending
Flushed-untried k b calls r to untried (flush.nothing_due h) = untried
Flushed-untried k b calls r to untried (flush.not_kept h flush.keep_lost) = tt
Flushed-untried k b calls r to untried (flush.not_kept h flush.keep_memory) = untried
Flushed-untried k b calls r to untried (flush.kept_and_written h flush.kept w) = as_it_is r to.pending (kept_untried b.pending b.pending.staged refl untried)

pub Settled-untried : (b : Sender) (calls : List Call) (r : Result ⊤ StageFault) (to : Sender) → b.pending.store_failed ≡ false → Settled b calls r to → IsUntried r to.pending
Settled-untried b calls r to untried d = Flushed-untried (due_number b.numbers) b calls r to untried d

numbered_untried : (b : Sender) (calls : List Call) (r : Result ⊤ StageFault) (to : Sender) → b.pending.store_failed ≡ false → Numbered b calls r to → IsUntried r to.pending
numbered_untried b calls r to untried (staging.has_number h) = untried
numbered_untried b calls r to untried (staging.spent h d) = Flushed-untried 0 b calls (Ok tt) to untried d
numbered_untried b calls r to untried (staging.spent_fault {e = e} h d) = Flushed-untried 0 b calls (Err e) to untried d

roomy_untried : (size : ℕ) (b : Sender) (calls : List Call) (r : Result ⊤ StageFault) (to : Sender) → b.pending.store_failed ≡ false → Roomy size b calls r to → IsUntried r to.pending
roomy_untried size b calls r to untried (staging.fits h) = untried
roomy_untried size b calls r to untried (staging.full h d) = Flushed-untried 0 b calls r to untried d

put_untried : (id : Identity) (m : Outgoing) (b : Sender) (calls : List Call) (r : Result ⊤ StageFault) (to : Sender) → b.pending.store_failed ≡ false → Put id m b calls r to → IsUntried r to.pending
put_untried id m b calls r to untried (staging.put frame is f) = untried
put_untried id m b calls r to untried staging.put_memory = untried

pub Staging-untried : (id : Identity) (m : Outgoing) (b : Sender) (calls : List Call) (r : Result ⊤ StageFault) (to : Sender) → b.pending.store_failed ≡ false → Staging id m b calls r to → IsUntried r to.pending
Staging-untried id m b calls r to untried (combine.first_ends {e = e} d) = numbered_untried b calls (Err e) to untried d
Staging-untried id m b calls r to untried (combine.both {mid = mid} {first = first} d (combine.first_ends {calls = more} {e = e} k)) =
    roomy_untried (size_in_stage m.entry) mid more (Err e) to (numbered_untried b first (Ok tt) mid untried d) k
Staging-untried id m b calls r to untried (combine.both {mid = mid} {first = first} d (combine.both {mid = last} {first = more} {more = others} k p)) =
    put_untried id m last others r to (roomy_untried (size_in_stage m.entry) mid more (Ok tt) last (numbered_untried b first (Ok tt) mid untried d) k) p

pub MakesAndStages-untried : (id : Identity) (m : Outgoing) (b : Sender) (calls : List Call) (r : Result ⊤ StageFault) (to : Sender) → b.pending.store_failed ≡ false → MakesAndStages id m b calls r to → IsUntried r to.pending
MakesAndStages-untried id m b calls r to untried (staging.made d) = Staging-untried id m b calls r to untried d
MakesAndStages-untried id m b calls r to untried staging.not_made = untried

pub StagesPending-untried : (id : Identity) (b : Sender) (calls : List Call) (r : Result ⊤ StageFault) (to : Sender) → b.pending.store_failed ≡ false → StagesPending id b calls r to → IsUntried r to.pending
StagesPending-untried id b calls r to untried (staging.empty h) = untried
StagesPending-untried id b calls r to untried (staging.draft_memory d h) = untried
StagesPending-untried id b calls r to untried (staging.not_staged {e = e} d h k) = MakesAndStages-untried id _ b calls (Err e) to untried k
StagesPending-untried id b calls r to untried (staging.draft_staged {to = mid} d h k) = MakesAndStages-untried id _ b calls (Ok tt) mid untried k
