-- The machine of a session has the numbers that its sender has, after each answer that goes well and after each run.
use Rattle.std.proofs.Common.{◌≡◌, ◌≢◌, ℕ, ◌+◌, ◌<◌, ◌≤◌, List, [], ◌∷◌, ◌++◌, length, Bool, true, false, Option, Some, None, Result, Ok, Err, refl, sym, ap, subst, ◌∙◌, replicate, arith}
use Rattle.std.proofs.lemmas.List.{length-append}
use Rattle.std.proofs.lemmas.Bool.Decides.{nat_tests}
use Rattle.std.specs.Prelude.{⊤, is_some, nat_lt, if◌then◌else◌}
use Rattle.fix_base.specs.declared.identity.Identity.{Identity}
use Rattle.fix_outside.specs.Calls.{Call}
use Rattle.fix_machine.specs.declared.state.MachineState.{MachineState}
use Rattle.fix_machine.specs.declared.state.Options.{Options}
use Rattle.fix_machine.specs.Event.{EventSeen, First, Frame, Moved, Clock, Wrote, Inbound, StepSeen}
use Rattle.fix_machine.specs.State.{number_after}
use Rattle.fix_machine.specs.Numbers.{Adds, IsNoMessage, expected_after, last_after}
use Rattle.fix_machine.specs.Decide.{answer_to, started}
use Rattle.fix_stage.specs.Combine.{AndThen, first_ends, both, goes_well, fails, Each, none, ends, goes}
use Rattle.fix_stage.specs.declared.sender.Sender.{Sender}
use Rattle.fix_stage.specs.Sender.{next_number}
use Rattle.fix_stage.specs.Flush.{Settled}
use Rattle.fix_stage.specs.Outgoing.{Outgoing, draft_outgoing}
use Rattle.fix_stage.specs.Staging as staging
use Rattle.fix_stage.specs.Staging.{Numbered, Roomy, Put, MakesAndStages, StagesPending}
use Rattle.fix_stage.proofs.SendingLemmas.{Flushed-expected, Flushed-number}
use Rattle.fix_steps.specs.declared.ending.Ending.{Ending}
use Rattle.fix_steps.specs.Leaves.{last_taken}
use Rattle.fix_steps.specs.Told.{IsBounded, IsPossibleAnswer}
use Rattle.fix_steps.proofs.NumberLemmas.{carried_numbers}
use Rattle.fix_steps.proofs.PossibleLemmas.{message_fine, other_fine}
use Rattle.fix_session.specs.Judged.{RulesSeen}
use Rattle.fix_session.specs.State.{State, with_waiting, with_sender, answer_of, decided, expected_of}
use Rattle.fix_session.specs.InSync.{InSync, IsSettled}
use Rattle.fix_session.specs.Waits as waiting
use Rattle.fix_session.specs.Waits.{Waits, While, waits_at, due_frame, passed}
use Rattle.fix_session.specs.Answering as answering
use Rattle.fix_session.specs.Answering.{Stood, Standing, Answers, WaitsIfNew, AnswersFrame, Moves, Round, OneWaiting, CatchesUp, Receives}
use Rattle.fix_session.specs.Work.{WorkSeen}
use Rattle.fix_session.specs.Turn as turns
use Rattle.fix_session.specs.Turn.{read_at, logged_on, given, Sending, Beside, StagesDraft, OffersDraft, Offers, ReceivesAll, Feeds, Reads, Looks, Meets, Settles, Turn, OneTurn, Turns, left, Leaves, Runs}
use Rattle.fix_session.proofs.InboundLemmas.{is_told}

-- what goes well leaves it settled
abbrev Keeps : {S : Type 0} → (S → Type 0) → (S → List Call → Result ⊤ Ending → S → Type 0) → Type 0
Keeps {S} Good R = (s : S) (calls : List Call) (to : S) → Good s → R s calls (Ok tt) to → Good to

-- ---- what is staged

roomy_expected : (size : ℕ) (b to : Sender) (calls : List Call) → Roomy size b calls (Ok tt) to → to.numbers.expected ≡ b.numbers.expected
roomy_expected size b to calls (staging.fits h) = refl
roomy_expected size b to calls (staging.full h d) = Flushed-expected 0 b calls (Ok tt) to d

roomy_number : (size : ℕ) (b to : Sender) (calls : List Call) → Roomy size b calls (Ok tt) to → next_number to ≡ next_number b
roomy_number size b to calls (staging.fits h) = refl
roomy_number size b to calls (staging.full h d) = Flushed-number 0 b calls to d

-- a draft that is staged took one number more
pub record TookOne (b to : Sender) : Type 0 where
  pub expected : to.numbers.expected ≡ b.numbers.expected
  pub last : last_taken to ≡ last_taken b + 1
  pub few : last_taken b < 999999999

-- so did a message that was staged whole
pub made_took : (id : Identity) (m : Outgoing) (b to : Sender) (calls : List Call) → MakesAndStages id m b calls (Ok tt) to → TookOne b to
made_took id m b to calls (staging.made (both (staging.has_number free) (both {mid = mid} {first = first} room (staging.put frame out is)))) =
    let same = roomy_number _ b mid first room in
    record {
      expected = roomy_expected _ b mid first room;
      last = omega (arith, same, length-append mid.stage.entries (m.entry ∷ []));
      few = omega (arith, free);
    }

draft_took : (id : Identity) (b to : Sender) (calls : List Call) → is_some b.pending.draft ≡ true → StagesPending id b calls (Ok tt) to → TookOne b to
draft_took id b to calls some (staging.empty e) = let none = ap is_some e in cc
draft_took id b to calls some (staging.draft_staged {to = mid} d h k) =
    let took = made_took id (draft_outgoing b.numbers.reading d true) b mid calls k in
    record { expected = took.expected; last = took.last; few = took.few }

-- the next number of the machine
pub after : (last taken now : ℕ) → last ≡ taken → taken < 999999999 → now ≡ taken + 1 → number_after last ≡ now
after last taken now same few one =
    let less : nat_lt last 999999999 ≡ true = grind (arith, nat_tests, same, few) in
    ap (λ t. if t then last + 1 else last) less ∙ omega (arith, same, one)

-- a session that left its connection
pub left_sync : (s : State) → InSync (left s)
left_sync s = record { expected = refl; last = omega arith; asked = refl }

-- ---- an answer

module _ (adds : (o : Options) (s : MachineState) (e : EventSeen) → Adds (started s e) (answer_to o s e)) where
  standing_sync : (id : Identity) (frame : Option (List ℕ)) (s : State) (e : EventSeen) → started s.machine.state e ≡ s.machine.state
      → IsPossibleAnswer frame (answer_of s e) → (calls : List Call) (to : State) → IsSettled s → Standing id frame (answer_of s e).steps (decided s e) calls (Ok tt) to → IsSettled to
  standing_sync id frame s e from p calls to h (both {first = first} (goes_well {s = b} d) answering.stood) =
      let a = adds s.machine.options s.machine.state e in
      let n = carried_numbers id frame (answer_of s e).steps p.order s.sender first b d in
      let steps = (answer_of s e).steps in
      record {
        sync = record {
          expected = a.expected ∙ ap (λ (x : MachineState). expected_after steps x.expected) from ∙ ap (expected_after steps) h.sync.expected ∙ sym n.expected;
          last = a.last ∙ ap (λ (x : MachineState). last_after steps x.last) from ∙ ap (last_after steps) h.sync.last ∙ sym n.last;
          asked = refl;
        };
        bounded = p.next;
        version = h.version;
      }

  answers_sync : (id : Identity) (e : EventSeen) → IsNoMessage e → ((s : MachineState) → started s e ≡ s) → Keeps IsSettled (Answers id e)
  answers_sync id e other from s calls to h d =
      standing_sync id None s e (from s.machine.state) (other_fine s.machine.options s.machine.state e other h.version h.bounded) calls to h d

  waited_sync : (id : Identity) (frame : List ℕ) (number : Option ℕ) (xs : List StepSeen) (s : State) (i : Inbound) → IsPossibleAnswer (Some frame) (answer_of s (Frame i)) → IsSettled s
      → (first more : List Call) (mid to : State) → Waits frame number xs (decided s (Frame i)) first (Ok tt) mid → Standing id (Some frame) (answer_of s (Frame i)).steps mid more (Ok tt) to → IsSettled to
  waited_sync id frame number xs s i p h first more mid to (waiting.passes_by e) k = standing_sync id (Some frame) s (Frame i) refl p more to h k
  waited_sync id frame number xs s i p h first more mid to (waiting.unnumbered e) k = standing_sync id (Some frame) s (Frame i) refl p more to h k
  waited_sync id frame number xs s i p h first more mid to (waiting.waits n so there alone room) k =
      standing_sync id (Some frame) (with_waiting s mid.waiting) (Frame i) refl p more to
      (record { sync = record { expected = h.sync.expected; last = h.sync.last; asked = h.sync.asked }; bounded = h.bounded; version = h.version }) k
  waited_sync id frame number xs s i p h first more mid to (waiting.another_waits n so there one) k = standing_sync id (Some frame) s (Frame i) refl p more to h k
  waited_sync id frame number xs s i p h first more mid to (waiting.no_room n so there full) k = standing_sync id (Some frame) s (Frame i) refl p more to h k

  frame_sync : (id : Identity) (rules : RulesSeen) (new : Bool) (frame : List ℕ) → Keeps IsSettled (AnswersFrame id rules new frame)
  frame_sync id rules true frame s calls to h (answering.judged i told (both {mid = mid} {first = a} {more = b} w k)) =
      waited_sync id frame i.header.number _ s i (message_fine frame told.fields told.has i (is_told told) s.machine.options s.machine.state h.version h.bounded) h a b mid to w k
  frame_sync id rules false frame s calls to h (answering.judged i told (both {mid = mid} {first = a} {more = b} w k)) =
      waited_sync id frame i.header.number _ s i (message_fine frame told.fields told.has i (is_told told) s.machine.options s.machine.state h.version h.bounded) h a b mid to w k

  moves_sync : (id : Identity) (before : ℕ) → Keeps IsSettled (Moves id before)
  moves_sync id before s calls to h (answering.stays e) = h
  moves_sync id before s calls to h (answering.moves e d) = answers_sync id (Moved (is_some (waits_at (expected_of s) s.waiting))) tt (λ m. refl) s calls to h d

  round_sync : (id : Identity) (rules : RulesSeen) (new : Bool) (frame : List ℕ) → Keeps IsSettled (Round id rules new frame)
  round_sync id rules new frame s calls to h (both {mid = mid} {first = a} {more = b} d k) =
      moves_sync id (expected_of s) mid b to (frame_sync id rules new frame s a mid h d) k

  passed_sync : (s : State) → IsSettled s → IsSettled (passed s)
  passed_sync s h = record { sync = record { expected = h.sync.expected; last = h.sync.last; asked = h.sync.asked }; bounded = h.bounded; version = h.version }

  catches_sync : (id : Identity) (rules : RulesSeen) → Keeps IsSettled (CatchesUp id rules)
  catches_sync id rules s calls to h (waiting.rests e) = passed_sync s h
  catches_sync id rules s calls to h (waiting.goes_on {mid = mid} {first = a} {more = b} frame is d k) =
      catches_sync id rules mid b to (round_sync id rules false frame (passed s) a mid (passed_sync s h) d) k

  receives_sync : (id : Identity) (rules : RulesSeen) (frame : List ℕ) → Keeps IsSettled (Receives id rules frame)
  receives_sync id rules frame s calls to h (both {mid = mid} {first = a} {more = b} d k) =
      catches_sync id rules mid b to (round_sync id rules true frame s a mid h d) k

  -- ---- a turn

  noted_sync : (id : Identity) (s : State) (b : Sender) → IsSettled s → TookOne s.sender b → (calls : List Call) (to : State)
      → Answers id (Wrote b.numbers.reading) (with_sender s b) calls (Ok tt) to → IsSettled to
  noted_sync id s b h took calls to (both {first = first} (goes_well {s = c} k) answering.stood) =
      let m = s.machine.state in
      let e = Wrote b.numbers.reading in
      let p = other_fine s.machine.options m e tt h.version h.bounded in
      let a = adds s.machine.options m e in
      let n = carried_numbers id None (answer_of s e).steps p.order b first c k in
      record {
        sync = record {
          expected = a.expected ∙ h.sync.expected ∙ sym took.expected ∙ sym n.expected;
          last = a.last ∙ after m.last (last_taken s.sender) (last_taken b) h.sync.last took.few took.last ∙ sym n.last;
          asked = refl;
        };
        bounded = p.next;
        version = h.version;
      }

  draft_sync : (id : Identity) → Keeps IsSettled (StagesDraft id)
  draft_sync id s calls to h (turns.no_draft e) = h
  draft_sync id s calls to h (turns.drafts some (both {more = more} (goes_well {s = b} {calls = c} d) k)) =
      noted_sync id s b h (draft_took id s.sender b c some d) more to k

  offers_draft_sync : (id : Identity) → Keeps IsSettled (OffersDraft id)
  offers_draft_sync id s calls to h (turns.asks {calls = more} draft e d) =
      draft_sync id (given s draft) more to (record { sync = record { expected = h.sync.expected; last = h.sync.last; asked = h.sync.asked }; bounded = h.bounded; version = h.version }) d
  offers_draft_sync id s calls to h (turns.in_hand e d) = draft_sync id s calls to h d

  offers_sync : (id : Identity) → Keeps IsSettled (Offers id)
  offers_sync id s calls to h (turns.logs_on e d) =
      answers_sync id First tt (λ m. refl) (logged_on s) calls to (record { sync = record { expected = h.sync.expected; last = h.sync.last; asked = h.sync.asked }; bounded = h.bounded; version = h.version }) d
  offers_sync id s calls to h (turns.not_up e f) = h
  offers_sync id s calls to h (turns.is_up e f d) = offers_draft_sync id s calls to h d

  abbrev At : WorkSeen → Type 0
  At w = IsSettled w.state

  all_sync : (id : Identity) (rules : RulesSeen) → Keeps At (ReceivesAll id rules)
  all_sync id rules w calls to h (turns.no_more after gives) = h
  all_sync id rules w calls to h (turns.goes {s = s} {first = a} {more = b} frame after gives d k) =
      all_sync id rules _ b to (receives_sync id rules frame w.state a s h d) k

  reads_sync : (id : Identity) (rules : RulesSeen) → Keeps At (Reads id rules)
  reads_sync id rules w calls to h (turns.bytes b some few (turns.feeds d)) = all_sync id rules _ _ to h d
  reads_sync id rules w calls to h turns.idle = h

  looks_sync : (id : Identity) → Keeps IsSettled (Looks id)
  looks_sync id s calls to h (turns.looks {calls = more} time d) =
      answers_sync id (Clock time true) tt (λ m. refl) (read_at s time) more to (record { sync = record { expected = h.sync.expected; last = h.sync.last; asked = h.sync.asked }; bounded = h.bounded; version = h.version }) d

  meets_sync : (id : Identity) (rules : RulesSeen) → Keeps At (Meets id rules)
  meets_sync id rules w calls to h (both (goes_well {s = s} d) (both {mid = mid} {first = a} k (goes_well {s = t} {calls = c} l))) =
      looks_sync id mid.state c t (reads_sync id rules _ a mid (offers_sync id w.state _ s h d) k) l

  settles_sync : Keeps At Settles
  settles_sync w calls to h (goes_well (goes_well {s = b} d)) =
      let n = Flushed-number _ w.state.sender _ b d in
      record {
        sync = record {
          expected = h.sync.expected ∙ sym (Flushed-expected _ w.state.sender _ (Ok tt) b d);
          last = omega (arith, h.sync.last, n);
          asked = h.sync.asked;
        };
        bounded = h.bounded;
        version = h.version;
      }

  turn_sync : (id : Identity) (rules : RulesSeen) → Keeps At (Turn id rules)
  turn_sync id rules w calls to h (turns.stops e d) = cc
  turn_sync id rules w calls to h (turns.settles {mid = mid} {first = a} {more = b} e d k) = settles_sync mid b to (meets_sync id rules w a mid h d) k

  pub turns_sync : (id : Identity) (rules : RulesSeen) (xs : List ⊤) (w to : WorkSeen) (calls : List Call) → At w → Each (OneTurn id rules) w xs calls (Ok tt) to → At to
  turns_sync id rules [] w to calls h none = h
  turns_sync id rules (x ∷ xs) w to calls h (goes {mid = mid} {first = a} {more = b} d k) = turns_sync id rules xs mid to b (turn_sync id rules w a mid h d) k

  -- ---- a run

  leaves_sync : (s to : State) (cut : Bool) (calls : List Call) (r : Result ⊤ Ending) → Leaves s cut calls r to → InSync to
  leaves_sync s to cut calls r turns.not_cut = left_sync s
  leaves_sync s to cut calls r turns.is_cut = left_sync s
  leaves_sync s to cut calls r (turns.cut_memory e) = left_sync s

  pub run_sync : (id : Identity) (rules : RulesSeen) (n : ℕ) (w to : WorkSeen) (calls : List Call) (r : Result ⊤ Ending) → IsSettled w.state → Runs id rules n w calls r to → InSync to.state
  run_sync id rules n w to calls r h (turns.all_turns d) = (turns_sync id rules (replicate n tt) w to calls h d).sync
  run_sync id rules n w to calls r h (turns.ended {mid = mid} {s = s} {more = more} {e = e} d k) = leaves_sync mid.state s _ more (Ok tt) k
  run_sync id rules n w to calls r h (turns.ended_short {mid = mid} {s = s} {more = more} {f = f} d k) = leaves_sync mid.state s _ more (Err f) k
