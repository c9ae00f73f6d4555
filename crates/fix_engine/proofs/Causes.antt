-- A fault of a run has its cause: the part failed in it.
use Rattle.std.proofs.Common.{ℕ, ◌<◌, List, [], ◌∷◌, ◌++◌, Result, Ok, Err, arith}
use Rattle.std.specs.Prelude.{⊤}
use Rattle.fix_base.specs.declared.identity.Identity.{Identity}
use Rattle.fix_base.specs.Trace.{Note, OutsideSeen, Faults, Counts, HasTrace, store_failures, link_failures, app_failures}
use Rattle.fix_base.proofs.SeenLemmas.{store_failures-append, link_failures-append, app_failures-append}
use Rattle.fix_engine.specs.State.{State, Ending, Step}
use Rattle.fix_engine.specs.declared.state.Ending.TheVariants as ending
use Rattle.fix_engine.specs.Answer.{Performed, nothing, count, go_up, close, give_up, taken, hand_lost, hand_memory}
use Rattle.fix_engine.specs.Answer.{spent, keep_memory, keep_lost, sent, write_lost, write_memory}
use Rattle.fix_fields.specs.Drafted.{DraftText}
use Rattle.fix_engine.specs.declared.stop.SendFault.{SendFault}
use Rattle.fix_engine.specs.Reading.{ConnectionSeen, AnswerFrames, fed_frames, fed_memory}
use Rattle.fix_engine.specs.Reading.{ReadFrames, bytes, idle, over, read_lost, read_memory, ReadClock, now, now_memory}
use Rattle.fix_engine.specs.Reading.{StoreExpected, same, kept, expect_lost, expect_memory}
use Rattle.fix_engine.specs.Drafted as drafted
use Rattle.fix_engine.specs.Drafted.{Drafting}
use Rattle.fix_engine.specs.Turn as turn_seen
use Rattle.fix_engine.specs.Turn.{TurnSeen, SendDraft, SendPending, OfferDraft, Beside, beside, SendReadClock, RunAndCut}
use Rattle.fix_engine.specs.Run.{RunHasCause}
use Rattle.fix_engine.specs.Faults.{sent_ending, run_end}
use Rattle.fix_engine.proofs.FoldLaws.{Composes, Has, each_has, then_has, frames_have, ComposesRuns, run_has}
use Rattle.fix_engine.proofs.SendLemmas.{drafting_blames}

-- a fault stands among what it came of
abbrev pub Blames : Result ⊤ Ending → List Note → Type 0
Blames (Ok x) notes = ⊤
Blames (Err (ending.Closed why)) notes = ⊤
Blames (Err (ending.NotBuilt n)) notes = ⊤
Blames (Err ending.NumbersSpent) notes = ⊤
Blames (Err ending.OutOfMemory) notes = ⊤
Blames (Err ending.StoreFault) notes = 0 < store_failures notes
Blames (Err ending.LinkFault) notes = 0 < link_failures notes
Blames (Err ending.AppFault) notes = 0 < app_failures notes

blames_after : (r : Result ⊤ Ending) (first more : List Note) → Blames r more → Blames r (first ++ more)
blames_after (Ok x) first more h = tt
blames_after (Err (ending.Closed why)) first more h = tt
blames_after (Err (ending.NotBuilt n)) first more h = tt
blames_after (Err ending.NumbersSpent) first more h = tt
blames_after (Err ending.OutOfMemory) first more h = tt
blames_after (Err ending.StoreFault) first more h = omega (arith, store_failures-append first more)
blames_after (Err ending.LinkFault) first more h = omega (arith, link_failures-append first more)
blames_after (Err ending.AppFault) first more h = omega (arith, app_failures-append first more)

blames_before : (r : Result ⊤ Ending) (first more : List Note) → Blames r first → Blames r (first ++ more)
blames_before (Ok x) first more h = tt
blames_before (Err (ending.Closed why)) first more h = tt
blames_before (Err (ending.NotBuilt n)) first more h = tt
blames_before (Err ending.NumbersSpent) first more h = tt
blames_before (Err ending.OutOfMemory) first more h = tt
blames_before (Err ending.StoreFault) first more h = omega (arith, store_failures-append first more)
blames_before (Err ending.LinkFault) first more h = omega (arith, link_failures-append first more)
blames_before (Err ending.AppFault) first more h = omega (arith, app_failures-append first more)

-- whatever a part comes to, its fault stands among it
abbrev Blaming : {S : Type 0} → S → List Note → Result ⊤ Ending → S → Type 0
Blaming s notes r to = Blames r notes

parts_blame : {S : Type 0} → Composes {S = S} Blaming
parts_blame = record { nothing = λ s. tt; then = λ s mid to first more r h k. blames_after r first more k }

runs_blame : ComposesRuns Blaming
runs_blame = record {
  parts = parts_blame;
  stored = λ d mid to first more met h k. blames_before met first more h;
  not_stored = λ d mid to first more met e h k. blames_after (Err e) first more k;
  cut = λ d to notes e h. blames_before (Err e) notes _ h;
  cut_memory = λ d to notes e h. tt;
  no_cut = λ d to notes e h. h;
}

Performed-blames : (id : Identity) (frame : List ℕ) (x : Step) → Has Blaming (λ s. Performed id frame s x)
Performed-blames id frame x s notes r to nothing = tt
Performed-blames id frame x s notes r to (count n) = tt
Performed-blames id frame x s notes r to go_up = tt
Performed-blames id frame x s notes r to (close why) = tt
Performed-blames id frame x s notes r to (give_up n) = tt
Performed-blames id frame x s notes r to (taken n marked fields has) = tt
Performed-blames id frame x s notes r to (hand_lost n marked fields has) = omega arith
Performed-blames id frame x s notes r to (hand_memory n marked) = tt
Performed-blames id frame x s notes r to (spent say n h) = tt
Performed-blames id frame x s notes r to (keep_memory say n h) = tt
Performed-blames id frame x s notes r to (keep_lost say n h) = omega arith
Performed-blames id frame x s notes r to (sent say n text h said) = tt
Performed-blames id frame x s notes r to (write_lost say n text k h said) = omega arith
Performed-blames id frame x s notes r to (write_memory say n h) = tt

AnswerFrames-blames : (id : Identity) → Has Blaming (AnswerFrames id)
AnswerFrames-blames id = frames_have id Blaming parts_blame (λ s a b gives. tt)
    (λ s to a b frame notes r gives h.
    each_has Blaming (Performed id frame) parts_blame (Performed-blames id frame) _ s notes r to h.carried)

ReadFrames-blames : (id : Identity) → Has Blaming (ReadFrames id)
ReadFrames-blames id l notes r to (bytes {more = more} b some fits (fed_frames d)) =
    blames_after r (_ ∷ []) more (AnswerFrames-blames id _ more r to d)
ReadFrames-blames id l notes r to (bytes b some fits fed_memory) = tt
ReadFrames-blames id l notes r to idle = tt
ReadFrames-blames id l notes r to over = tt
ReadFrames-blames id l notes r to read_lost = omega arith
ReadFrames-blames id l notes r to read_memory = tt

ReadClock-blames : Has Blaming ReadClock
ReadClock-blames l notes r to (now t) = tt
ReadClock-blames l notes r to now_memory = tt

Drafting-blames : (id : Identity) (draft : DraftText) (s s' : State) (notes : List Note) (r : Result ℕ SendFault) →
    Drafting id draft s notes r s' → Blames (sent_ending r) notes
Drafting-blames id draft s s' notes r drafted.no_memory = tt
Drafting-blames id draft s s' notes r (drafted.lost k) = drafting_blames id draft s s' notes r (drafted.lost k)
Drafting-blames id draft s s' notes r (drafted.stored other k) = tt
Drafting-blames id draft s s' notes r (drafted.sent text up said k) = tt
Drafting-blames id draft s s' notes r (drafted.write_lost text many up said k) =
    drafting_blames id draft s s' notes r (drafted.write_lost text many up said k)
Drafting-blames id draft s s' notes r (drafted.write_memory up k) = tt

SendDraft-blames : (id : Identity) (draft : DraftText) → Has Blaming (SendDraft id draft)
SendDraft-blames id draft d notes r to (turn_seen.spent full) = tt
SendDraft-blames id draft d notes r to (turn_seen.sends small is k) = Drafting-blames id draft _ _ _ _ k

SendPending-blames : (id : Identity) → Has Blaming (SendPending id)
SendPending-blames id d notes r to (turn_seen.empty held_none) = tt
SendPending-blames id d notes r to (turn_seen.holds draft some k) = SendDraft-blames id draft d notes r to k

OfferDraft-blames : (id : Identity) → Has Blaming (OfferDraft id)
OfferDraft-blames id d notes r to (turn_seen.not_up other) = tt
OfferDraft-blames id d notes r to (turn_seen.asked {notes = more} given up held_none k) =
    blames_after r (_ ∷ []) more (SendPending-blames id _ more r to k)
OfferDraft-blames id d notes r to (turn_seen.was_in_hand draft up some k) = SendDraft-blames id draft d notes r to k

Beside-blames : {R : ConnectionSeen → List Note → Result ⊤ Ending → ConnectionSeen → Type 0} → Has Blaming R →
    Has Blaming (Beside R)
Beside-blames one d notes r to (beside {to = at} k) = one d.connection notes r at k

SendReadClock-blames : (id : Identity) → Has Blaming (SendReadClock id)
SendReadClock-blames id = then_has Blaming (OfferDraft id) _ parts_blame (OfferDraft-blames id)
    (Beside-blames (then_has Blaming (ReadFrames id) ReadClock parts_blame (ReadFrames-blames id) ReadClock-blames))

StoreExpected-blames : Has Blaming StoreExpected
StoreExpected-blames l notes r to (same h) = tt
StoreExpected-blames l notes r to (kept h) = tt
StoreExpected-blames l notes r to (expect_lost h) = omega arith
StoreExpected-blames l notes r to (expect_memory h) = tt

RunAndCut-blames : (id : Identity) (n : ℕ) → Has Blaming (RunAndCut id n)
RunAndCut-blames id = run_has id Blaming runs_blame (SendReadClock-blames id) (Beside-blames StoreExpected-blames)

caused : (r : Result ⊤ Ending) (old new : Faults) (notes : List Note) → Counts old new notes → Blames r notes →
    RunHasCause (run_end r) old new
caused (Ok x) old new notes counts h = tt
caused (Err (ending.Closed why)) old new notes counts h = tt
caused (Err (ending.NotBuilt n)) old new notes counts h = tt
caused (Err ending.NumbersSpent) old new notes counts h = tt
caused (Err ending.OutOfMemory) old new notes counts h = tt
caused (Err ending.StoreFault) old new notes counts h = omega arith
caused (Err ending.LinkFault) old new notes counts h = omega arith
caused (Err ending.AppFault) old new notes counts h = omega arith

-- a run that answers a fault has its cause
pub RunsTo-has_cause : (id : Identity) (n : ℕ) (l : TurnSeen) (r : Result ⊤ Ending) (to : TurnSeen) (old new : OutsideSeen) →
    HasTrace old new (λ notes. RunAndCut id n l notes r to) → RunHasCause (run_end r) old.faults new.faults
RunsTo-has_cause id n l r to old new g = caused r old.faults new.faults g.0 g.1.faults (RunAndCut-blames id n l g.0 r to g.2)
