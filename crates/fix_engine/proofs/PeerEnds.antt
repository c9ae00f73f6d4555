-- A run answers that the other side ended the connection just where it read so.
use Rattle.std.proofs.Common.{◌≡◌, ◌⊎◌, inl, inr, ℕ, ◌<◌, List, [], ◌∷◌, ◌++◌, Result, Ok, Err, refl, sym, subst, arith}
use Rattle.std.proofs.Common.{replicate}
use Rattle.std.specs.Prelude.{⊤}
use Rattle.fix_base.specs.declared.identity.Identity.{Identity}
use Rattle.fix_base.specs.declared.act.Act.{Act}
use Rattle.fix_base.specs.declared.act.Act.TheVariants as act
use Rattle.fix_base.specs.Lists.{Among, here, there}
use Rattle.fix_base.specs.Trace.{Note, Did, Failed, LinkPart, OutsideSeen, HasTrace, acts_of}
use Rattle.fix_base.proofs.SeenLemmas.{acts_of-append}
use Rattle.fix_fields.specs.Drafted.{DraftText}
use Rattle.fix_engine.specs.State.{Ending, PeerEnd}
use Rattle.fix_engine.specs.declared.state.Ending.TheVariants as ending
use Rattle.fix_engine.specs.declared.stop.RunEnd.TheVariants as run
use Rattle.fix_engine.specs.declared.stop.SendFault.{SendFault}
use Rattle.fix_engine.specs.declared.stop.SendFault.TheVariants as fault
use Rattle.fix_engine.specs.declared.stop.StopCause.TheVariants as cause
use Rattle.fix_engine.specs.Fold as fold
use Rattle.fix_engine.specs.Fold.{Each, AndThen, first_ends, both}
use Rattle.fix_engine.specs.Reading as turn
use Rattle.fix_engine.specs.Reading.{ConnectionSeen, AnswerFrames, Feed, ReadFrames, ReadClock, StoreExpected}
use Rattle.fix_engine.specs.Turn as turn_seen
use Rattle.fix_engine.specs.Turn.{TurnSeen, SendDraft, SendPending, OfferDraft, beside, SendReadClock, Turn, OneTurn, RunAndCut}
use Rattle.fix_engine.specs.Faults.{sent_ending, run_end}
use Rattle.fix_engine.specs.Counts.{reads_in, ShowsPeerEnd}
use Rattle.fix_engine.proofs.Turns.{reads_in-append, Answers, OfferDraft-once, Feed-answers, StoreExpected-answers}
use Rattle.fix_engine.proofs.Shown.{among_before, among_behind, frame_not_over}

among_reads : (acts : List Act) → Among act.Ended acts → 0 < reads_in acts
among_reads acts here = omega arith
among_reads acts (there {y = y} {xs = xs} a) = omega (arith, among_reads xs a, reads_in-append (y ∷ []) xs)

-- notes without a read have no end of the connection
no_end : (notes : List Note) → reads_in (acts_of notes) ≡ 0 → Among act.Ended (acts_of notes) → ⊥
no_end notes reads a = omega (arith, among_reads (acts_of notes) a, reads)

among_either : {A : Type 0} (x : A) (xs ys : List A) → Among x (xs ++ ys) → Among x xs ⊎ Among x ys
among_either x [] ys a = inr a
among_either x (y ∷ xs) ys here = inl here
among_either x (y ∷ xs) ys (there a) = elim (among_either x xs ys a) [ inl l ↦ inl (there l) | inr r ↦ inr r ]

either_notes : (xs ys : List Note) → Among act.Ended (acts_of (xs ++ ys)) → Among act.Ended (acts_of xs) ⊎
    Among act.Ended (acts_of ys)
either_notes xs ys a = among_either act.Ended (acts_of xs) (acts_of ys)
    (subst (Among act.Ended) (acts_of-append xs ys) a)

abbrev Shows : Result ⊤ Ending → List Note → Type 0
Shows r notes = ShowsPeerEnd (run_end r) (acts_of notes)

-- notes without a read change nothing
shows_too : (r : Result ⊤ Ending) (xs ys : List Note) → Shows r xs → Answers ys → Shows r (xs ++ ys)
shows_too r xs ys s t = record {
  read = λ h. subst (Among act.Ended) (sym (acts_of-append xs ys))
      (among_before act.Ended (acts_of xs) (acts_of ys) (s.read h));
  only = λ a. elim (either_notes xs ys a) [ inl l ↦ s.only l | inr m ↦ absurd (no_end ys t.reads m) ];
}

-- what went on has no end, and another part follows
shows_then : (r : Result ⊤ Ending) (xs ys : List Note) → Shows (Ok tt) xs → Shows r ys → Shows r (xs ++ ys)
shows_then r xs ys s t = record {
  read = λ h. subst (Among act.Ended) (sym (acts_of-append xs ys))
      (among_behind act.Ended (acts_of xs) (acts_of ys) (t.read h));
  only = λ a. elim (either_notes xs ys a) [ inl l ↦ absurd (s.only l) | inr m ↦ t.only m ];
}

-- nothing was read of an end, and none is answered
shows_none : (r : Result ⊤ Ending) (notes : List Note) → (run_end r ≡ run.Closed PeerEnd → ⊥) →
    (Among act.Ended (acts_of notes) → ⊥) → Shows r notes
shows_none r notes h never = record { read = λ e. absurd (h e); only = λ a. absurd (never a) }

AnswerFrames-not_over : (id : Identity) (l : ConnectionSeen) (notes : List Note) (r : Result ⊤ Ending) (to : ConnectionSeen) →
    AnswerFrames id l notes r to → run_end r ≡ run.Closed PeerEnd → ⊥
AnswerFrames-not_over id l notes r to (turn.no_more gives) h = cc
AnswerFrames-not_over id l notes r to (turn.ends {s = s} {s' = s'} {e = e} frame gives d) h =
    frame_not_over id frame s s' notes e d h
AnswerFrames-not_over id l notes r to (turn.goes {mid = mid} {b = b} {more = more} frame gives d k) h =
    AnswerFrames-not_over id (turn.connection_seen mid b) more r to k h

Feed-not_over : (id : Identity) (b : List ℕ) (l : ConnectionSeen) (notes : List Note) (r : Result ⊤ Ending) (to : ConnectionSeen) →
    Feed id b l notes r to → run_end r ≡ run.Closed PeerEnd → ⊥
Feed-not_over id b l notes r to (turn.fed_frames d) h = AnswerFrames-not_over id _ notes r to d h
Feed-not_over id b l notes r to turn.fed_memory h = cc

behind_read : (b : List ℕ) (notes : List Note) → Answers notes → Among act.Ended (act.Read b ∷ acts_of notes) → ⊥
behind_read b notes t (there a) = no_end notes t.reads a

none_of_one : (x : Act) → Among act.Ended (x ∷ []) → (x ≡ act.Ended → ⊥) → ⊥
none_of_one x here other = other refl
none_of_one x (there a) other = elim a [ ]

none_of_none : Among act.Ended [] → ⊥
none_of_none a = elim a [ ]

ReadFrames-shows : (id : Identity) (l : ConnectionSeen) (notes : List Note) (r : Result ⊤ Ending) (to : ConnectionSeen) →
    ReadFrames id l notes r to → Shows r notes
ReadFrames-shows id l notes r to (turn.bytes {more = more} b some fits d) =
    shows_none r (Did (act.Read b) ∷ more) (Feed-not_over id b l more r to d)
    (behind_read b more (Feed-answers id b l more r to d))
ReadFrames-shows id l notes r to turn.idle = shows_none (Ok tt) (Did act.Idle ∷ []) (λ h. cc)
    (λ a. none_of_one act.Idle a (λ e. cc))
ReadFrames-shows id l notes r to turn.over = record { read = λ h. here; only = λ a. tt }
ReadFrames-shows id l notes r to turn.read_lost =
    shows_none (Err ending.LinkFault) (Failed (LinkPart 0) ∷ []) (λ h. cc) none_of_none
ReadFrames-shows id l notes r to turn.read_memory = shows_none (Err ending.OutOfMemory) [] (λ h. cc) none_of_none

ReadClock-shows : (l : ConnectionSeen) (notes : List Note) (r : Result ⊤ Ending) (to : ConnectionSeen) → ReadClock l notes r to → Shows r notes
ReadClock-shows l notes r to (turn.now t) =
    shows_none (Ok tt) (Did (act.Now t) ∷ []) (λ h. cc) (λ a. none_of_one (act.Now t) a (λ e. cc))
ReadClock-shows l notes r to turn.now_memory = shows_none (Err ending.OutOfMemory) [] (λ h. cc) none_of_none

Looked-shows : (id : Identity) (l : ConnectionSeen) (notes : List Note) (r : Result ⊤ Ending) (to : ConnectionSeen) →
    AndThen (ReadFrames id) ReadClock l notes r to → Shows r notes
Looked-shows id l notes r to (first_ends {e = e} d) = ReadFrames-shows id l notes (Err e) to d
Looked-shows id l notes r to (both {mid = mid} {first = first} {more = more} d k) =
    shows_then r first more (ReadFrames-shows id l first (Ok tt) mid d) (ReadClock-shows mid more r to k)

-- the sending of a draft ends no connection
sent_not_over : (r : Result ℕ SendFault) → run_end (sent_ending r) ≡ run.Closed PeerEnd → ⊥
sent_not_over (Ok n) h = cc
sent_not_over (Err (fault.Stopped cause.StoreFault)) h = cc
sent_not_over (Err (fault.Stopped cause.AppFault)) h = cc
sent_not_over (Err (fault.Stopped cause.OutOfMemory)) h = cc
sent_not_over (Err fault.NumbersSpent) h = cc
sent_not_over (Err fault.OutOfMemory) h = cc
sent_not_over (Err fault.StoreFault) h = cc
sent_not_over (Err (fault.LinkFault n)) h = cc

SendDraft-not_over : (id : Identity) (draft : DraftText) {d to : TurnSeen} {notes : List Note} {r : Result ⊤ Ending} →
    SendDraft id draft d notes r to → run_end r ≡ run.Closed PeerEnd → ⊥
SendDraft-not_over id draft (turn_seen.spent full) h = cc
SendDraft-not_over id draft (turn_seen.sends {r = x} small is k) h = sent_not_over x h

SendPending-not_over : (id : Identity) {d to : TurnSeen} {notes : List Note} {r : Result ⊤ Ending} → SendPending id d notes r to →
    run_end r ≡ run.Closed PeerEnd → ⊥
SendPending-not_over id (turn_seen.empty held_none) h = cc
SendPending-not_over id (turn_seen.holds draft some k) h = SendDraft-not_over id draft k h

OfferDraft-not_over : (id : Identity) {d to : TurnSeen} {notes : List Note} {r : Result ⊤ Ending} → OfferDraft id d notes r to →
    run_end r ≡ run.Closed PeerEnd → ⊥
OfferDraft-not_over id (turn_seen.not_up other) h = cc
OfferDraft-not_over id (turn_seen.asked given up held_none k) h = SendPending-not_over id k h
OfferDraft-not_over id (turn_seen.was_in_hand draft up some k) h = SendDraft-not_over id draft k h

OfferDraft-shows : (id : Identity) (d : TurnSeen) (notes : List Note) (r : Result ⊤ Ending) (to : TurnSeen) →
    OfferDraft id d notes r to → Shows r notes
OfferDraft-shows id d notes r to k =
    let o = OfferDraft-once id d notes r to k in
    shows_none r notes (λ h. OfferDraft-not_over id k h) (λ a. no_end notes o.tallies.reads a)

SendReadClock-shows : (id : Identity) (d : TurnSeen) (notes : List Note) (r : Result ⊤ Ending) (to : TurnSeen) → SendReadClock id d notes r to →
    Shows r notes
SendReadClock-shows id d notes r to (first_ends {e = e} k) = OfferDraft-shows id d notes (Err e) to k
SendReadClock-shows id d notes r to (both {mid = mid} {first = first} {more = more} k (beside {to = end} h)) =
    shows_then r first more (OfferDraft-shows id d first (Ok tt) mid k) (Looked-shows id mid.connection more r end h)

unkept : (l to : ConnectionSeen) (notes all : List Note) (e : Ending) → StoreExpected l notes (Err e) to → Shows (Err e) all
unkept l to notes all e (turn.expect_lost h) = record { read = λ h. absurd cc; only = λ a. tt }
unkept l to notes all e (turn.expect_memory h) = record { read = λ h. absurd cc; only = λ a. tt }

Turn-shows : (id : Identity) (d : TurnSeen) (notes : List Note) (r : Result ⊤ Ending) (to : TurnSeen) → Turn id d notes r to →
    Shows r notes
Turn-shows id d notes r to (turn_seen.stops h k) = SendReadClock-shows id d notes r to k
Turn-shows id d notes r to (turn_seen.keeps {mid = mid} {first = first} {more = more} h k (beside {to = end} e)) =
    shows_too r first more (SendReadClock-shows id d first r mid k) (StoreExpected-answers mid.connection more (Ok tt) end e)
Turn-shows id d notes r to (turn_seen.keeps_not {mid = mid} {first = first} {more = more} {e = e} h k
    (beside {to = end} lost)) = unkept mid.connection end more (first ++ more) e lost

TakeTurns-show : (id : Identity) (us : List ⊤) (d : TurnSeen) (notes : List Note) (r : Result ⊤ Ending) (to : TurnSeen) →
    Each (OneTurn id) d us notes r to → Shows r notes
TakeTurns-show id [] d notes r to fold.none = shows_none (Ok tt) [] (λ h. cc) none_of_none
TakeTurns-show id (u ∷ us) d notes r to (fold.ends {e = e} k) = Turn-shows id d notes (Err e) to k
TakeTurns-show id (u ∷ us) d notes r to (fold.goes {mid = mid} {first = first} {more = more} k rest) =
    shows_then r first more (Turn-shows id d first (Ok tt) mid k) (TakeTurns-show id us mid more r to rest)

RunAndCut-shows : (id : Identity) (n : ℕ) (d : TurnSeen) (notes : List Note) (r : Result ⊤ Ending) (to : TurnSeen) →
    RunAndCut id n d notes r to → Shows r notes
RunAndCut-shows id n d notes r to (turn_seen.all_turns k) = TakeTurns-show id (replicate n tt) d notes (Ok tt) to k
RunAndCut-shows id n d notes r to (turn_seen.cut {to = at} {notes = xs} {e = e} h k) =
    shows_too (Err e) xs (Did act.Cut ∷ []) (TakeTurns-show id (replicate n tt) d xs (Err e) at k)
    (record { reads = refl; looks = refl; asks = refl })
RunAndCut-shows id n d notes r to (turn_seen.cut_memory h k) = record { read = λ h. absurd cc; only = λ a. tt }
RunAndCut-shows id n d notes r to (turn_seen.no_cut {to = at} {e = e} h k) = TakeTurns-show id (replicate n tt) d notes (Err e) at k

-- a run answers the other side's end just where it read it
pub shows_peer_end : (id : Identity) (n : ℕ) (d : TurnSeen) (r : Result ⊤ Ending) (to : TurnSeen) (old new : OutsideSeen) →
    HasTrace old new (λ notes. RunAndCut id n d notes r to) → HasTrace old new (λ notes. ShowsPeerEnd (run_end r) (acts_of notes))
shows_peer_end id n d r to old new g = (g.0, g.1, RunAndCut-shows id n d g.0 r to g.2)
