-- A session is Down behind every end of a run but one: where all turns were made, it goes on.
use Rattle.std.proofs.Common.{◌≡◌, ◌≢◌, ℕ, List, Result, Ok, Err, refl, sym, ◌∙◌}
use Rattle.std.specs.Prelude.{⊤}
use Rattle.fix_base.specs.declared.identity.Identity.{Identity}
use Rattle.fix_base.specs.Trace.{Note}
use Rattle.fix_fields.specs.Drafted.{DraftText}
use Rattle.fix_engine.specs.State.{State, Phase, Down, Ending, Step}
use Rattle.fix_engine.specs.declared.state.Ending.TheVariants as ending
use Rattle.fix_engine.specs.declared.stop.SendFault.{SendFault}
use Rattle.fix_engine.specs.Answer.{Performed, nothing, count, go_up, close, give_up, taken, hand_lost, hand_memory}
use Rattle.fix_engine.specs.Answer.{spent, keep_memory, keep_lost, sent, write_lost, write_memory}
use Rattle.fix_engine.specs.Reading.{ConnectionSeen, AnswerFrames, fed_frames, fed_memory, ReadFrames}
use Rattle.fix_engine.specs.Reading.{bytes, idle, over, read_lost, read_memory, ReadClock, now, now_memory, StoreExpected}
use Rattle.fix_engine.specs.Reading.{same, kept, expect_lost, expect_memory}
use Rattle.fix_engine.specs.Drafted as drafted
use Rattle.fix_engine.specs.Drafted.{Drafting}
use Rattle.fix_engine.specs.Turn as turn_seen
use Rattle.fix_engine.specs.Turn.{TurnSeen, SendDraft, SendPending, OfferDraft, Beside, beside, SendReadClock, TakeTurns, RunAndCut}
use Rattle.fix_engine.specs.Turn.{all_turns, cut, cut_memory, no_cut}
use Rattle.fix_engine.specs.Run.{IsDownUnlessSpent}
use Rattle.fix_engine.specs.Faults.{sent_ending, run_end}
use Rattle.fix_engine.proofs.FoldLaws.{Composes, Has, each_has, then_has, frames_have, ComposesRuns, turns_have}
use Rattle.fix_engine.proofs.SendLemmas.{drafting_phase}

-- where it goes on, an open connection stays open
abbrev pub StaysOpen : Result ⊤ Ending → Phase → Phase → Type 0
StaysOpen (Ok x) old new = old ≢ Down → new ≢ Down
StaysOpen (Err e) old new = ⊤

both_open : {a b : Phase} (r : Result ⊤ Ending) (c : Phase) → (a ≢ Down → b ≢ Down) → StaysOpen r b c → StaysOpen r a c
both_open (Ok x) c first more = λ h. more (first h)
both_open (Err e) c first more = tt

-- of what has a phase
abbrev Opening : {S : Type 0} → (S → Phase) → S → List Note → Result ⊤ Ending → S → Type 0
Opening phase s notes r to = StaysOpen r (phase s) (phase to)

parts_open : {S : Type 0} (phase : S → Phase) → Composes (Opening phase)
parts_open phase = record {
  nothing = λ s h. h;
  then = λ s mid to first more r h k. both_open r (phase to) h k;
}

abbrev of_state : State → Phase
of_state s = s.phase

abbrev of_connection : ConnectionSeen → Phase
of_connection l = l.state.phase

abbrev of_turn : TurnSeen → Phase
of_turn d = d.connection.state.phase

Performed-open : (id : Identity) (frame : List ℕ) (x : Step) → Has (Opening of_state) (λ s. Performed id frame s x)
Performed-open id frame x s notes r to nothing = λ h. h
Performed-open id frame x s notes r to (count n) = λ h. h
Performed-open id frame x s notes r to go_up = λ h e. cc
Performed-open id frame x s notes r to (close why) = tt
Performed-open id frame x s notes r to (give_up n) = tt
Performed-open id frame x s notes r to (taken n marked fields has) = λ h. h
Performed-open id frame x s notes r to (hand_lost n marked fields has) = tt
Performed-open id frame x s notes r to (hand_memory n marked) = tt
Performed-open id frame x s notes r to (spent say n h) = tt
Performed-open id frame x s notes r to (keep_memory say n h) = tt
Performed-open id frame x s notes r to (keep_lost say n h) = tt
Performed-open id frame x s notes r to (sent say n text h said) = λ g. g
Performed-open id frame x s notes r to (write_lost say n text k h said) = tt
Performed-open id frame x s notes r to (write_memory say n h) = tt

AnswerFrames-open : (id : Identity) → Has (Opening of_connection) (AnswerFrames id)
AnswerFrames-open id = frames_have id (Opening of_connection) (parts_open of_connection) (λ s a b gives h. h)
    (λ s to a b frame notes r gives h.
    each_has (Opening of_state) (Performed id frame) (parts_open of_state) (Performed-open id frame) _ s notes r to h.carried)

ReadFrames-open : (id : Identity) → Has (Opening of_connection) (ReadFrames id)
ReadFrames-open id l notes r to (bytes {more = more} b some fits (fed_frames d)) = AnswerFrames-open id _ more r to d
ReadFrames-open id l notes r to (bytes b some fits fed_memory) = tt
ReadFrames-open id l notes r to idle = λ h. h
ReadFrames-open id l notes r to over = tt
ReadFrames-open id l notes r to read_lost = tt
ReadFrames-open id l notes r to read_memory = tt

ReadClock-open : Has (Opening of_connection) ReadClock
ReadClock-open l notes r to (now t) = λ h. h
ReadClock-open l notes r to now_memory = tt

same_open : (a b : Phase) → b ≡ a → a ≢ Down → b ≢ Down
same_open a b stays is_open = λ closed. is_open (sym stays ∙ closed)

Drafting-open : (id : Identity) (draft : DraftText) (s s' : State) (notes : List Note) (r : Result ℕ SendFault) →
    Drafting id draft s notes r s' → StaysOpen (sent_ending r) s.phase s'.phase
Drafting-open id draft s s' notes r drafted.no_memory = tt
Drafting-open id draft s s' notes r (drafted.lost k) = tt
Drafting-open id draft s s' notes r (drafted.stored {n = n} other k) =
    same_open s.phase s'.phase (drafting_phase id draft s s' n notes (drafted.stored other k))
Drafting-open id draft s s' notes r (drafted.sent {n = n} text up said k) =
    same_open s.phase s'.phase (drafting_phase id draft s s' n notes (drafted.sent text up said k))
Drafting-open id draft s s' notes r (drafted.write_lost text many up said k) = tt
Drafting-open id draft s s' notes r (drafted.write_memory up k) = tt

SendDraft-open : (id : Identity) (draft : DraftText) (d to : TurnSeen) (notes : List Note) (r : Result ⊤ Ending) →
    SendDraft id draft d notes r to → StaysOpen r d.connection.state.phase to.connection.state.phase
SendDraft-open id draft d to notes r (turn_seen.spent full) = tt
SendDraft-open id draft d to notes r (turn_seen.sends {r = x} {s = s} small is k) =
    Drafting-open id draft d.connection.state s notes x k

SendPending-open : (id : Identity) (d to : TurnSeen) (notes : List Note) (r : Result ⊤ Ending) → SendPending id d notes r to →
    StaysOpen r d.connection.state.phase to.connection.state.phase
SendPending-open id d to notes r (turn_seen.empty held_none) = λ h. h
SendPending-open id d to notes r (turn_seen.holds draft some k) = SendDraft-open id draft d to notes r k

OfferDraft-open : (id : Identity) (d to : TurnSeen) (notes : List Note) (r : Result ⊤ Ending) → OfferDraft id d notes r to →
    StaysOpen r d.connection.state.phase to.connection.state.phase
OfferDraft-open id d to notes r (turn_seen.not_up other) = λ h. h
OfferDraft-open id d to notes r (turn_seen.asked {notes = more} given up held_none k) =
    SendPending-open id (turn_seen.turn_seen d.connection (record { draft = given; store_failed = d.pending.store_failed })) to more r k
OfferDraft-open id d to notes r (turn_seen.was_in_hand draft up some k) = SendDraft-open id draft d to notes r k

StoreExpected-open : Has (Opening of_connection) StoreExpected
StoreExpected-open l notes r to (same h) = λ g. g
StoreExpected-open l notes r to (kept h) = λ g. g
StoreExpected-open l notes r to (expect_lost h) = tt
StoreExpected-open l notes r to (expect_memory h) = tt

Beside-open : {R : ConnectionSeen → List Note → Result ⊤ Ending → ConnectionSeen → Type 0} →
    Has (Opening of_connection) R → Has (Opening of_turn) (Beside R)
Beside-open one d notes r to (beside {to = at} k) = one d.connection notes r at k

SendReadClock-open : (id : Identity) → Has (Opening of_turn) (SendReadClock id)
SendReadClock-open id = then_has (Opening of_turn) (OfferDraft id) _ (parts_open of_turn)
    (λ d notes r to k. OfferDraft-open id d to notes r k)
    (Beside-open (then_has (Opening of_connection) (ReadFrames id) ReadClock (parts_open of_connection) (ReadFrames-open id)
    ReadClock-open))

-- what is met first, and then the keeping that went well
then_kept : (r : Result ⊤ Ending) (a b c : Phase) → StaysOpen r a b → (b ≢ Down → c ≢ Down) → StaysOpen r a c
then_kept (Ok x) a b c met later = λ h. later (met h)
then_kept (Err e) a b c met later = tt

runs_open : ComposesRuns (Opening of_turn)
runs_open = record {
  parts = parts_open of_turn;
  stored = λ d mid to first more met h k.
      then_kept met d.connection.state.phase mid.connection.state.phase to.connection.state.phase h k;
  not_stored = λ d mid to first more met e h k. tt;
  cut = λ d to notes e h. tt;
  cut_memory = λ d to notes e h. tt;
  no_cut = λ d to notes e h. tt;
}

TakeTurns-open : (id : Identity) (n : ℕ) → Has (Opening of_turn) (TakeTurns id n)
TakeTurns-open id = turns_have id (Opening of_turn) runs_open (SendReadClock-open id) (Beside-open StoreExpected-open)

err_is_down : (e : Ending) (old : Phase) → IsDownUnlessSpent (run_end (Err e)) old Down
err_is_down (ending.Closed why) old = refl
err_is_down (ending.NotBuilt n) old = refl
err_is_down ending.StoreFault old = refl
err_is_down ending.LinkFault old = refl
err_is_down ending.AppFault old = refl
err_is_down ending.NumbersSpent old = refl
err_is_down ending.OutOfMemory old = refl

-- a run of an open connection
pub RunAndCut-phase : (id : Identity) (n : ℕ) (d : TurnSeen) (notes : List Note) (r : Result ⊤ Ending) (to : TurnSeen) →
    d.connection.state.phase ≢ Down → RunAndCut id n d notes r to →
    IsDownUnlessSpent (run_end r) d.connection.state.phase to.connection.state.phase
RunAndCut-phase id n d notes r to is_open (all_turns k) =
    TakeTurns-open id n d notes (Ok tt) to k is_open
RunAndCut-phase id n d notes r to is_open (cut {e = e} h k) = err_is_down e d.connection.state.phase
RunAndCut-phase id n d notes r to is_open (cut_memory h k) = err_is_down ending.OutOfMemory d.connection.state.phase
RunAndCut-phase id n d notes r to is_open (no_cut {e = e} h k) = err_is_down e d.connection.state.phase
