-- What comes of a message that is sent outside of a turn: a session stays at rest, and each fault has its cause.
use Rattle.std.proofs.Common.{◌≡◌, ℕ, ◌+◌, ◌≤◌, true, false, List, ◌++◌, Bool, Option, Some, Result, Ok, Err, refl, sym, subst, ◌∙◌, arith}
use Rattle.std.proofs.lemmas.Bool.Decides.{nat_tests}
use Rattle.std.specs.Prelude.{⊤, nat_lt, IfSome, IfNone}
use Rattle.fix_base.specs.declared.identity.Identity.{Identity}
use Rattle.fix_base.specs.Trace.{OutsideSeen}
use Rattle.fix_outside.specs.Calls.{Call, HasCalls}
use Rattle.fix_fields.specs.Drafted.{DraftText}
use Rattle.fix_machine.specs.declared.state.MachineState.{MachineState}
use Rattle.fix_machine.specs.declared.state.Phase.{Phase}
use Rattle.fix_machine.specs.declared.state.Phase.TheVariants.{Down, AwaitLogon, Up, LogoutSent}
use Rattle.fix_machine.specs.Event.{EventSeen}
use Rattle.fix_machine.specs.State.{number_after, read_clock}
use Rattle.fix_machine.specs.Decide as machine
use Rattle.fix_stage.specs.Combine.{AndThen, first_ends, both, Lifted, goes_well, fails}
use Rattle.fix_stage.specs.Causes.{Blames, Blaming, blame_of}
use Rattle.fix_stage.specs.declared.fault.StageFault.{StageFault}
use Rattle.fix_stage.specs.declared.fault.StageFault.TheVariants as stage
use Rattle.fix_stage.specs.declared.sender.Sender.{Sender}
use Rattle.fix_stage.specs.Sender.{open_after}
use Rattle.fix_stage.specs.Staging.{MakesAndStages}
use Rattle.fix_stage.specs.Flush.{Flushed}
use Rattle.fix_stage.proofs.CombineLemmas.{Then-blames, Lifted-blames, Blames-after, Blames-before, has_risen}
use Rattle.fix_stage.proofs.SendingLemmas.{Flushed-expected, Flushed-number, Flushed-empty, Flushed-blames, MakesAndStages-blames}
use Rattle.fix_steps.specs.Leaves.{last_taken}
use Rattle.fix_steps.specs.declared.ending.Ending.{Ending}
use Rattle.fix_steps.specs.Ending.{ending_of}
use Rattle.fix_steps.specs.Ending as steps
use Rattle.fix_session.specs.State.{State, IsSound, decided, with_sender}
use Rattle.fix_session.specs.InSync.{IsAtRest}
use Rattle.fix_session.specs.Turn as turns
use Rattle.fix_session.specs.Turn.{read_at, is_cut_of, left, Leaves}
use Rattle.fix_session.specs.Begin as begin
use Rattle.fix_session.specs.Begin.{TakesTime}
use Rattle.fix_session.specs.Send as send
use Rattle.fix_session.specs.Send.{Posting, draft_posting, logout_posting, stage_memory, BySender, StagesIt, Tells, Posts, EndsSo, PostsOrLeaves}
use Rattle.fix_session.specs.Stops.{send_end, send_stop, SendHasCause}
use Rattle.fix_session.proofs.BeginLemmas.{IsQuiet, quiet, at_rest}
use Rattle.fix_session.proofs.SyncLemmas.{made_took, after, left_sync}
use Rattle.fix_session.proofs.LeftLemmas.{ends_sound, short_sound}

-- ---- what the machine is told

-- a message took a number
pub record TookNumber (m to : MachineState) : Type 0 where
  pub expected : to.expected ≡ m.expected
  pub last : to.last ≡ number_after m.last
  pub asked : to.reset_asked ≡ m.reset_asked
  pub gap : to.resend_requested ≡ m.resend_requested

-- what is told of the message is that it took its number
abbrev pub Counts : Posting → State → Type 0
Counts p s = (time : ℕ) → TookNumber s.machine.state (decided s (p.event time)).machine.state

pub draft_counts : (written : Bool) (d : DraftText) (s : State) → Counts (draft_posting written d) s
draft_counts written d s time = record { expected = refl; last = refl; asked = refl; gap = refl }

leave_counts : (p : Phase) (m : MachineState) → p ≡ Up → TookNumber m (machine.leave p m).next
leave_counts Down m e = cc
leave_counts AwaitLogon m e = cc
leave_counts Up m e = record { expected = refl; last = refl; asked = refl; gap = refl }
leave_counts LogoutSent m e = cc

pub logout_counts : (id : Identity) (s : State) → s.machine.state.phase ≡ Up → Counts (logout_posting id) s
logout_counts id s is time =
    let t = leave_counts s.machine.state.phase (read_clock time s.machine.state) is in
    record { expected = t.expected; last = t.last; asked = t.asked; gap = t.gap }

-- ---- at rest

posts_settled : (id : Identity) (p : Posting) (s : State) (calls : List Call) (to : State) → Counts p s → IsQuiet s → Posts id p s calls (Ok tt) to → IsQuiet to
posts_settled id p s calls to counts h (both (goes_well (begin.took time)) (both {mid = mid} (goes_well {s = b} {calls = first} staged) (both send.tells (goes_well {s = c} {calls = more} flushed)))) =
    let took = made_took id _ (read_at s time).sender b first staged in
    let told = counts b.numbers.reading in
    let number = Flushed-number 0 b more c flushed in
    record {
      settled = record {
        sync = record {
          expected = told.expected ∙ h.settled.sync.expected ∙ sym took.expected ∙ sym (Flushed-expected 0 b more (Ok tt) c flushed);
          last = told.last ∙ after s.machine.state.last (last_taken s.sender) (last_taken b) h.settled.sync.last took.few took.last
              ∙ omega (arith, number);
          asked = h.settled.sync.asked ∙ sym told.asked;
        };
        bounded = record {
          first = subst (λ n. 1 ≤ n) (sym told.expected) h.settled.bounded.first;
          last = subst (λ n. n ≤ 1000000000) (sym told.expected) h.settled.bounded.last;
          gap = subst (λ g. IfSome g (λ gap. gap.above ≤ 999999999)) (sym told.gap) h.settled.bounded.gap;
        };
        version = h.settled.version;
      };
      unstaged = Flushed-empty 0 b more (Ok tt) c flushed;
      waiting = h.waiting;
    }

-- a session that left its connection is at rest
pub left_rest : (id : Identity) (w : OutsideSeen) (open_at : Option ℕ) (s : State) → IsSound id w open_at (left s) → IsAtRest (left s)
left_rest id w open_at s h = record {
  settled = record { sync = left_sync s; bounded = h.bounded; version = h.version };
  range = h.sender.range;
  unstaged = refl;
  waiting = h.waiting;
}

pub leaves_rest : (id : Identity) (w : OutsideSeen) (open_at : Option ℕ) (s : State) (cut : Bool) (calls : List Call) (r : Result ⊤ Ending) (to : State) → Leaves s cut calls r to
    → IsSound id w open_at to → IsAtRest to
leaves_rest id w open_at s cut calls r to turns.not_cut h = left_rest id w open_at s h
leaves_rest id w open_at s cut calls r to turns.is_cut h = left_rest id w open_at s h
leaves_rest id w open_at s cut calls r to (turns.cut_memory e) h = left_rest id w open_at s h

ends_rest : (id : Identity) (w : OutsideSeen) (open_at : Option ℕ) (p : Posting) (s mid to : State) (posted r : Result ⊤ StageFault) (first more : List Call) → Counts p s → IsQuiet s
    → Posts id p s first posted mid → EndsSo mid posted more r to → IsSound id w open_at to → IsAtRest to
ends_rest id w open_at p s mid to posted r first more counts h d send.stays_connected g =
    at_rest to g.sender.range (posts_settled id p s first to counts h d)
ends_rest id w open_at p s mid to posted r first more counts h d (send.leaves e l) g = leaves_rest id w open_at mid _ more (Ok tt) to l g
ends_rest id w open_at p s mid to posted r first more counts h d (send.leaves_short e f l) g = leaves_rest id w open_at mid _ more (Err f) to l g

pub sent_rest : (id : Identity) (w : OutsideSeen) (open_at : Option ℕ) (p : Posting) (s to : State) (calls : List Call) (r : Result ⊤ StageFault) → Counts p s → IsAtRest s
    → PostsOrLeaves id p s calls r to → IsSound id w open_at to → IsAtRest to
sent_rest id w open_at p s to calls r counts h (send.posts {mid = mid} {first = first} {more = more} {posted = posted} d e) g =
    ends_rest id w open_at p s mid to posted r first more counts (quiet s h) d e g

-- ---- Down after a fault

abbrev pub IsDownIf : Result ⊤ StageFault → State → Type 0
IsDownIf (Ok x) s = ⊤
IsDownIf (Err e) s = s.machine.state.phase ≡ Down

pub left_down : (s : State) (cut : Bool) (calls : List Call) (r : Result ⊤ Ending) (to : State) → Leaves s cut calls r to → to.machine.state.phase ≡ Down
left_down s cut calls r to turns.not_cut = refl
left_down s cut calls r to turns.is_cut = refl
left_down s cut calls r to (turns.cut_memory e) = refl

ends_down : (s : State) (posted r : Result ⊤ StageFault) (calls : List Call) (to : State) → EndsSo s posted calls r to → IsDownIf r to
ends_down s posted r calls to send.stays_connected = tt
ends_down s posted r calls to (send.leaves e l) = left_down s _ calls (Ok tt) to l
ends_down s posted r calls to (send.leaves_short e f l) = left_down s _ calls (Err f) to l

sent_down : (id : Identity) (p : Posting) (s to : State) (calls : List Call) (r : Result ⊤ StageFault) → PostsOrLeaves id p s calls r to → IsDownIf r to
sent_down id p s to calls r (send.posts {mid = mid} {more = more} {posted = posted} d e) = ends_down mid posted r more to e

-- a session that is stopped by it is Down
pub stopped_down : (id : Identity) (p : Posting) (s to : State) (calls : List Call) (r : Result ⊤ StageFault) (number : ℕ) → PostsOrLeaves id p s calls r to
    → IfSome (send_stop (send_end number r)) (λ cause. to.machine.state.phase ≡ Down)
stopped_down id p s to calls (Ok x) number h = tt
stopped_down id p s to calls (Err stage.NumbersSpent) number h = tt
stopped_down id p s to calls (Err stage.OutOfMemory) number h = sent_down id p s to calls (Err stage.OutOfMemory) h
stopped_down id p s to calls (Err stage.StoreFault) number h = sent_down id p s to calls (Err stage.StoreFault) h
stopped_down id p s to calls (Err stage.LinkFault) number h = tt

-- the store is open where it isn't stopped
pub sent_open : (r : Result ⊤ StageFault) (b : Sender) (number : ℕ) (at : Option ℕ) → at ≡ open_after r b → IfNone (send_stop (send_end number r)) (at ≡ Some b.numbers.last)
sent_open (Ok x) b number at h = h
sent_open (Err stage.NumbersSpent) b number at h = h
sent_open (Err stage.OutOfMemory) b number at h = tt
sent_open (Err stage.StoreFault) b number at h = tt
sent_open (Err stage.LinkFault) b number at h = h

-- ---- a store that is open after a fault

pub same_open : (e : StageFault) (b : Sender) → open_after (Err e) b ≡ steps.open_after (Err (ending_of e)) b
same_open stage.NumbersSpent b = refl
same_open stage.OutOfMemory b = refl
same_open stage.StoreFault b = refl
same_open stage.LinkFault b = refl

pub left_ok : (id : Identity) (w w' : OutsideSeen) (f : StageFault) (s to : State) (calls : List Call) → Leaves s (is_cut_of (ending_of f)) calls (Ok tt) to → w'.open_at ≡ w.open_at
    → IsSound id w (open_after (Err f) s.sender) s → IsSound id w' (open_after (Err f) to.sender) to
left_ok id w w' f s to calls l same h =
    subst (λ o. IsSound id w' o to) (sym (same_open f to.sender))
    (ends_sound id w w' (ending_of f) _ s to calls l same (subst (λ o. IsSound id w o s) (same_open f s.sender) h))

short_open : (s to : State) (cut : Bool) (calls : List Call) (f : Ending) → Leaves s cut calls (Err f) to → steps.open_after (Err f) to.sender ≡ Some to.sender.numbers.last
short_open s to cut calls f (turns.cut_memory e) = refl

pub left_short : (id : Identity) (w w' : OutsideSeen) (f : StageFault) (e : Ending) (s to : State) (calls : List Call) → Leaves s (is_cut_of (ending_of f)) calls (Err e) to → w'.open_at ≡ w.open_at
    → IsSound id w (open_after (Err f) s.sender) s → IsSound id w' (Some to.sender.numbers.last) to
left_short id w w' f e s to calls l same h =
    subst (λ o. IsSound id w' o to) (short_open s to _ calls e l)
    (short_sound id w w' (ending_of f) e _ s to calls refl l same (subst (λ o. IsSound id w o s) (same_open f s.sender) h))

-- ---- causes

same_blame : (e : StageFault) → blame_of e ≡ blame_of e
same_blame e = refl

time_blames : Blaming blame_of (Lifted begin.itself begin.instead stage_memory TakesTime)
time_blames s calls r to (goes_well d) = tt
time_blames s calls r to (fails d) = tt

tells_blames : (event : ℕ → EventSeen) → Blaming blame_of (Tells event)
tells_blames event s calls r to send.tells = tt

by_sender_blames : (R : Sender → List Call → Result ⊤ StageFault → Sender → Type 0) → Blaming blame_of R → Blaming blame_of (BySender R)
by_sender_blames R one = Lifted-blames _ _ _ blame_of blame_of R same_blame one

stages_blames : (id : Identity) (p : Posting) → Blaming blame_of (StagesIt id p)
stages_blames id p s calls r to d = by_sender_blames _ (MakesAndStages-blames id (p.message s.sender.numbers.reading)) s calls r to d

posts_blames : (id : Identity) (p : Posting) → Blaming blame_of (Posts id p)
posts_blames id p =
    Then-blames blame_of _ (AndThen (StagesIt id p) (AndThen (Tells p.event) (BySender (Flushed 0)))) time_blames
    (Then-blames blame_of (StagesIt id p) (AndThen (Tells p.event) (BySender (Flushed 0))) (stages_blames id p)
    (Then-blames blame_of (Tells p.event) (BySender (Flushed 0)) (tells_blames p.event) (by_sender_blames (Flushed 0) (Flushed-blames 0))))

ends_blames : (id : Identity) (p : Posting) (s mid to : State) (posted r : Result ⊤ StageFault) (first more : List Call) → Posts id p s first posted mid → EndsSo mid posted more r to
    → Blames blame_of r (first ++ more)
ends_blames id p s mid to posted r first more d send.stays_connected = tt
ends_blames id p s mid to posted r first more d (send.leaves e l) = Blames-before blame_of (Err e) first more (posts_blames id p s first (Err e) mid d)
ends_blames id p s mid to posted r first more d (send.leaves_short e f l) = tt

sends_blames : (id : Identity) (p : Posting) → Blaming blame_of (PostsOrLeaves id p)
sends_blames id p s calls r to (send.posts {mid = mid} {first = first} {more = more} {posted = posted} d e) = ends_blames id p s mid to posted r first more d e

pub send_caused : (id : Identity) (p : Posting) (s : State) (r : Result ⊤ StageFault) (to : State) (number : ℕ) (old new : OutsideSeen)
    → HasCalls old new (λ calls. PostsOrLeaves id p s calls r to) → SendHasCause (send_end number r) old.faults new.faults
send_caused id p s (Ok x) to number old new h = tt
send_caused id p s (Err stage.NumbersSpent) to number old new h = tt
send_caused id p s (Err stage.OutOfMemory) to number old new h = tt
send_caused id p s (Err stage.StoreFault) to number old new h =
    has_risen (blame_of stage.StoreFault) old.faults new.faults h.0 h.1.faults (sends_blames id p s h.0 (Err stage.StoreFault) to h.2)
send_caused id p s (Err stage.LinkFault) to number old new h =
    has_risen (blame_of stage.LinkFault) old.faults new.faults h.0 h.1.faults (sends_blames id p s h.0 (Err stage.LinkFault) to h.2)

-- ---- by its sender

pub by_sender : (R : Sender → List Call → Result ⊤ StageFault → Sender → Type 0) (s : State) (calls : List Call) (r : Result ⊤ StageFault) (b : Sender) → R s.sender calls r b
    → BySender R s calls r (with_sender s b)
by_sender R s calls (Ok x) b h = goes_well h
by_sender R s calls (Err e) b h = fails h

-- ---- the number, and the clock before it

pub none_left : (last : ℕ) → ((1 ≤ last + 1) × (last + 1 ≤ 999999999) → ⊥) → 999999999 ≤ last
none_left last h = elim (nat_lt last 999999999) as (λ t. nat_lt last 999999999 ≡ t → 999999999 ≤ last) [
  | true ↦ λ e. absurd (h (omega arith, grind (arith, nat_tests, e)))
  | false ↦ λ e. grind (arith, nat_tests, e)
] refl

-- what is posted by the phase is so after a look at the clock
pub posts_after : (id : Identity) (p : Phase → Posting) (s mid to : State) (first more : List Call) (r : Result ⊤ StageFault) → TakesTime s first (Ok tt) mid
    → AndThen (StagesIt id (p mid.machine.state.phase)) (AndThen (Tells (p mid.machine.state.phase).event) (BySender (Flushed 0))) mid more r to
    → Posts id (p s.machine.state.phase) s (first ++ more) r to
posts_after id p s mid to first more r (begin.took time) k = both (goes_well (begin.took time)) k
