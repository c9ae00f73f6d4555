-- A run opens no connection, resets no store, and keeps what may be sent again.
use Rattle.std.proofs.Common.{◌≡◌, ◌≢◌, ℕ, ◌+◌, ◌≤◌, List, [], ◌∷◌, ◌++◌, Option, Some, None, Result, refl, sym, subst}
use Rattle.std.proofs.Common.{lit<, arith}
use Rattle.std.specs.Prelude.{⊤}
use Rattle.fix_base.specs.declared.identity.Identity.{Identity}
use Rattle.fix_base.specs.declared.act.Act.{Act}
use Rattle.fix_base.specs.declared.act.Act.TheVariants as act
use Rattle.fix_base.specs.Reader.{AreOfOneConnection}
use Rattle.fix_base.specs.Payload.{LAST_TIME, IsPersistentEntry}
use Rattle.fix_base.specs.Trace.{Note, acts_of}
use Rattle.fix_base.proofs.SeenLemmas.{acts_of-append}
use Rattle.fix_fields.specs.Drafted.{DraftText}
use Rattle.fix_engine.specs.State.{State, Ending, Step, Say, Logon, Logout, with_last, counted}
use Rattle.fix_engine.specs.Answer.{Performed, entry_of, nothing, count, go_up, close, give_up, taken, hand_lost}
use Rattle.fix_engine.specs.Answer.{hand_memory, spent, keep_memory, keep_lost, sent, write_lost, write_memory}
use Rattle.fix_engine.specs.declared.stop.SendFault.{SendFault}
use Rattle.fix_engine.specs.Drafted as drafted
use Rattle.fix_engine.specs.Drafted.{KeepsDraft, Drafting}
use Rattle.fix_engine.specs.InStep.{IsOfRun, AreOfRun}
use Rattle.fix_engine.specs.Reading.{ConnectionSeen, AnswerFrames, fed_frames, fed_memory, ReadFrames}
use Rattle.fix_engine.specs.Reading.{bytes, idle, over, read_lost, read_memory, ReadClock, now, now_memory, StoreExpected}
use Rattle.fix_engine.specs.Reading.{same, kept, expect_lost, expect_memory}
use Rattle.fix_engine.specs.Turn as turns
use Rattle.fix_engine.specs.Turn.{TurnSeen, SendDraft, SendPending, OfferDraft, Beside, SendReadClock, RunAndCut}
use Rattle.fix_engine.proofs.FoldLaws.{Composes, Has, each_has, then_has, frames_have, ComposesRuns, run_has}
use Rattle.fix_engine.proofs.DraftFrames.{draft_persistent}

pub of_run-append : (xs ys : List Act) → AreOfRun xs → AreOfRun ys → AreOfRun (xs ++ ys)
of_run-append [] ys h k = k
of_run-append (x ∷ xs) ys h k = (h.0, of_run-append xs ys h.1 k)

-- such acts open no connection
no_opening : (x : Act) → IsOfRun x → x ≢ act.Opened
no_opening x h e = subst IsOfRun e h

pub of_run_one : (acts : List Act) → AreOfRun acts → AreOfOneConnection acts
of_run_one [] h = tt
of_run_one (x ∷ acts) h = (no_opening x h.0, of_run_one acts h.1)

-- the acts among these are acts of a run
abbrev pub IsRun : List Note → Type 0
IsRun notes = AreOfRun (acts_of notes)

IsRun-append : (xs ys : List Note) → IsRun xs → IsRun ys → IsRun (xs ++ ys)
IsRun-append xs ys h k = subst AreOfRun (sym (acts_of-append xs ys)) (of_run-append (acts_of xs) (acts_of ys) h k)

-- from this reading to that one, both before the end of 2099, these are acts of a run
abbrev pub Plainly : ℕ → List Note → ℕ → Type 0
Plainly t notes t' = t ≤ LAST_TIME → IsRun notes × (t' ≤ LAST_TIME)

plainly_then : (t u v : ℕ) (xs ys : List Note) → Plainly t xs u → Plainly u ys v → Plainly t (xs ++ ys) v
plainly_then t u v xs ys first more h =
    let a = first h in
    let b = more a.1 in
    (IsRun-append xs ys a.0 b.0, b.1)

-- of what has a reading
abbrev OfRun : {S : Type 0} → (S → ℕ) → S → List Note → Result ⊤ Ending → S → Type 0
OfRun time s notes r to = Plainly (time s) notes (time to)

parts_plainly : {S : Type 0} (time : S → ℕ) → Composes (OfRun time)
parts_plainly time = record {
  nothing = λ s h. (tt, h);
  then = λ s mid to first more r h k. plainly_then (time s) (time mid) (time to) first more h k;
}

-- an entry that a session keeps may be sent again
said_persistent : (s : State) (say : Say) → s.reading ≤ LAST_TIME → IsPersistentEntry (entry_of s say)
said_persistent s (Logon heart) h = record {
  payload = record { time_fits = h; kind_known = refl; about_fits = lit< tt };
  kept = λ e. omega arith;
}
said_persistent s Logout h = record {
  payload = record { time_fits = h; kind_known = refl; about_fits = lit< tt };
  kept = λ e. omega arith;
}

counted_reading : (s : State) (n : Option ℕ) → (counted s n).reading ≡ s.reading
counted_reading s None = refl
counted_reading s (Some n) = refl

abbrev reading_of : State → ℕ
reading_of s = s.reading

abbrev time_of : ConnectionSeen → ℕ
time_of l = l.state.reading

abbrev time_at : TurnSeen → ℕ
time_at d = d.connection.state.reading

Performed-plainly : (id : Identity) (frame : List ℕ) (x : Step) → Has (OfRun reading_of) (λ s. Performed id frame s x)
Performed-plainly id frame x s notes r to nothing = λ h. (tt, h)
Performed-plainly id frame x s notes r to (count n) = λ h. (tt, h)
Performed-plainly id frame x s notes r to go_up = λ h. (tt, h)
Performed-plainly id frame x s notes r to (close why) = λ h. (tt, h)
Performed-plainly id frame x s notes r to (give_up n) = λ h. (tt, h)
Performed-plainly id frame x s notes r to (taken n marked fields has) = λ h. ((tt, tt), h)
Performed-plainly id frame x s notes r to (hand_lost n marked fields has) = λ h. ((tt, tt), h)
Performed-plainly id frame x s notes r to (hand_memory n marked) = λ h. (tt, h)
Performed-plainly id frame x s notes r to (spent say n k) = λ h. (tt, h)
Performed-plainly id frame x s notes r to (keep_memory say n k) = λ h. (tt, h)
Performed-plainly id frame x s notes r to (keep_lost say n k) = λ h. ((said_persistent s say h, tt), h)
Performed-plainly id frame x s notes r to (sent say n text k said) = λ h. ((said_persistent s say h, (tt, tt)), h)
Performed-plainly id frame x s notes r to (write_lost say n text many k said) =
    λ h. (
      (said_persistent s say h, (tt, tt)),
      subst (λ t. t ≤ LAST_TIME) (sym (counted_reading (with_last s (s.last + 1)) n)) h,
    )
Performed-plainly id frame x s notes r to (write_memory say n k) = λ h. ((said_persistent s say h, tt), h)

AnswerFrames-plainly : (id : Identity) → Has (OfRun time_of) (AnswerFrames id)
AnswerFrames-plainly id = frames_have id (OfRun time_of) (parts_plainly time_of) (λ s a b gives h. (tt, h))
    (λ s to a b frame notes r gives h.
    each_has (OfRun reading_of) (Performed id frame) (parts_plainly reading_of) (Performed-plainly id frame) _ s notes r to
    h.carried)

ReadFrames-plainly : (id : Identity) → Has (OfRun time_of) (ReadFrames id)
ReadFrames-plainly id l notes r to (bytes {more = more} b some fits (fed_frames d)) =
    λ h. (let t = AnswerFrames-plainly id _ more r to d h in ((tt, t.0), t.1))
ReadFrames-plainly id l notes r to (bytes b some fits fed_memory) = λ h. ((tt, tt), h)
ReadFrames-plainly id l notes r to idle = λ h. ((tt, tt), h)
ReadFrames-plainly id l notes r to over = λ h. ((tt, tt), h)
ReadFrames-plainly id l notes r to read_lost = λ h. (tt, h)
ReadFrames-plainly id l notes r to read_memory = λ h. (tt, h)

ReadClock-plainly : Has (OfRun time_of) ReadClock
ReadClock-plainly l notes r to (now t) = λ h. ((tt, tt), omega arith)
ReadClock-plainly l notes r to now_memory = λ h. (tt, h)

StoreExpected-plainly : Has (OfRun time_of) StoreExpected
StoreExpected-plainly l notes r to (same k) = λ h. (tt, h)
StoreExpected-plainly l notes r to (kept k) = λ h. ((tt, tt), h)
StoreExpected-plainly l notes r to (expect_lost k) = λ h. ((tt, tt), h)
StoreExpected-plainly l notes r to (expect_memory k) = λ h. (tt, h)

-- ---- a draft

-- what is kept of a draft may be sent again
KeepsDraft-plainly : (d : DraftText) (s : State) (notes : List Note) (r : Result ℕ SendFault) (s' : State) →
    KeepsDraft d s notes r s' → Plainly s.reading notes s'.reading
KeepsDraft-plainly d s notes r s' drafted.unkept = λ h. (tt, h)
KeepsDraft-plainly d s notes r s' (drafted.kept_lost is) = λ h. ((draft_persistent s d is h, tt), h)
KeepsDraft-plainly d s notes r s' (drafted.was_kept is) = λ h. ((draft_persistent s d is h, tt), h)

pub Drafting-plainly : (id : Identity) (d : DraftText) (s : State) (notes : List Note) (r : Result ℕ SendFault)
    (s' : State) → Drafting id d s notes r s' → Plainly s.reading notes s'.reading
Drafting-plainly id d s notes r s' drafted.no_memory = λ h. (tt, h)
Drafting-plainly id d s notes r s' (drafted.lost k) = KeepsDraft-plainly d s notes _ s' k
Drafting-plainly id d s notes r s' (drafted.stored other k) = KeepsDraft-plainly d s notes _ s' k
Drafting-plainly id d s notes r s' (drafted.sent {notes = first} text up said k) =
    plainly_then s.reading s'.reading s'.reading first _ (KeepsDraft-plainly d s first _ s' k) (λ h. ((tt, tt), h))
Drafting-plainly id d s notes r s' (drafted.write_lost {notes = first} text many up said k) =
    plainly_then s.reading s'.reading s'.reading first _ (KeepsDraft-plainly d s first _ s' k) (λ h. ((tt, tt), h))
Drafting-plainly id d s notes r s' (drafted.write_memory up k) = KeepsDraft-plainly d s notes _ s' k

SendDraft-plainly : (id : Identity) (draft : DraftText) (d : TurnSeen) (notes : List Note) (r : Result ⊤ Ending) (to : TurnSeen) →
    SendDraft id draft d notes r to → Plainly d.connection.state.reading notes to.connection.state.reading
SendDraft-plainly id draft d notes r to (turns.spent k) = λ h. (tt, h)
SendDraft-plainly id draft d notes r to (turns.sends {s = s} small is k) =
    Drafting-plainly id draft d.connection.state notes _ s k

SendPending-plainly : (id : Identity) (d : TurnSeen) (notes : List Note) (r : Result ⊤ Ending) (to : TurnSeen) →
    SendPending id d notes r to → Plainly d.connection.state.reading notes to.connection.state.reading
SendPending-plainly id d notes r to (turns.empty k) = λ h. (tt, h)
SendPending-plainly id d notes r to (turns.holds draft is k) = SendDraft-plainly id draft d notes r to k

OfferDraft-plainly : (id : Identity) (d : TurnSeen) (notes : List Note) (r : Result ⊤ Ending) (to : TurnSeen) →
    OfferDraft id d notes r to → Plainly d.connection.state.reading notes to.connection.state.reading
OfferDraft-plainly id d notes r to (turns.not_up k) = λ h. (tt, h)
OfferDraft-plainly id d notes r to (turns.asked {notes = more} given up empty k) = λ h. SendPending-plainly id _ more r to k h
OfferDraft-plainly id d notes r to (turns.was_in_hand draft up is k) = SendDraft-plainly id draft d notes r to k

-- ---- a turn, and a run

Beside-plainly : {R : ConnectionSeen → List Note → Result ⊤ Ending → ConnectionSeen → Type 0} → Has (OfRun time_of) R →
    Has (OfRun time_at) (Beside R)
Beside-plainly one d notes r to (turns.beside {to = mid} k) = one d.connection notes r mid k

SendReadClock-plainly : (id : Identity) → Has (OfRun time_at) (SendReadClock id)
SendReadClock-plainly id = then_has (OfRun time_at) (OfferDraft id) _ (parts_plainly time_at) (OfferDraft-plainly id)
    (Beside-plainly (then_has (OfRun time_of) (ReadFrames id) ReadClock (parts_plainly time_of) (ReadFrames-plainly id)
    ReadClock-plainly))

runs_plainly : ComposesRuns (OfRun time_at)
runs_plainly = record {
  parts = parts_plainly time_at;
  stored = λ d mid to first more met h k. plainly_then (time_at d) (time_at mid) (time_at to) first more h k;
  not_stored = λ d mid to first more met e h k. plainly_then (time_at d) (time_at mid) (time_at to) first more h k;
  cut = λ d to notes e h. plainly_then (time_at d) (time_at to) (time_at to) notes _ h (λ t. ((tt, tt), t));
  cut_memory = λ d to notes e h. h;
  no_cut = λ d to notes e h. h;
}

-- the acts of a run, from a reading on that is before the end of 2099
pub RunAndCut-plainly : (id : Identity) (n : ℕ) (d : TurnSeen) (notes : List Note) (r : Result ⊤ Ending) (to : TurnSeen) →
    RunAndCut id n d notes r to → d.connection.state.reading ≤ LAST_TIME → IsRun notes
RunAndCut-plainly id n d notes r to k h =
    (run_has id (OfRun time_at) runs_plainly (SendReadClock-plainly id) (Beside-plainly StoreExpected-plainly) n d notes r to k
    h).0
