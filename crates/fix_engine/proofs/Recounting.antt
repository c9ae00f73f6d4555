-- A run is found again by looking back.
use Rattle.std.proofs.Common.{◌≡◌, ◌≢◌, ℕ, ◌+◌, List, [], ◌∷◌, ◌++◌, length, Option, Result, Ok, Err, refl, sym, ap}
use Rattle.std.proofs.Common.{subst, ◌∙◌, append_assoc, replicate}
use Rattle.std.specs.Prelude.{⊤, option_map}
use Rattle.std.proofs.lemmas.List.{append-nil}
use Rattle.fix_base.specs.declared.identity.Identity.{Identity}
use Rattle.fix_base.specs.declared.act.Act.{Act}
use Rattle.fix_base.specs.declared.act.Act.TheVariants as act
use Rattle.fix_base.specs.declared.entry.Record.TheVariants.{Expect}
use Rattle.fix_base.specs.Lists.{here}
use Rattle.fix_base.specs.Reader.{bytes_read}
use Rattle.fix_base.specs.Stream.{UnreadBytes}
use Rattle.fix_base.specs.Trace.{Note, Did, Failed, Asked, StorePart, LinkPart, OutsideSeen, HasTrace, acts_of}
use Rattle.fix_base.proofs.SeenLemmas.{acts_of-append}
use Rattle.fix_fields.specs.Drafted.{DraftText, draft_body}
use Rattle.fix_frame.specs.Given.{GivesFrame}
use Rattle.fix_engine.specs.State.{State, Ending, with_stored_expected, with_reading}
use Rattle.fix_engine.specs.declared.state.Ending.TheVariants as ending
use Rattle.fix_engine.specs.declared.stop.SendFault.{SendFault}
use Rattle.fix_engine.specs.declared.stop.SendFault.TheVariants as fault
use Rattle.fix_engine.specs.declared.stop.StopCause.TheVariants as cause
use Rattle.fix_engine.specs.Fold as fold
use Rattle.fix_engine.specs.Fold.{Each, AndThen, first_ends, both}
use Rattle.fix_engine.specs.Answer.{AnswerFrame}
use Rattle.fix_engine.specs.Reading as turn
use Rattle.fix_engine.specs.Reading.{ConnectionSeen, connection_seen, fed, AnswerFrames, ReadFrames, ReadClock, StoreExpected}
use Rattle.fix_engine.specs.Drafted.{Drafting}
use Rattle.fix_engine.specs.Turn as turns
use Rattle.fix_engine.specs.Turn.{TurnSeen, SendDraft, SendPending, OfferDraft, beside, SendReadClock, Turn, OneTurn, RunAndCut, turn_seen}
use Rattle.fix_engine.specs.Faults.{sent_ending, run_end}
use Rattle.fix_engine.specs.LookBack.{state_at, AreFramesTo, StandsAt, Calls, reads, idles, is_over, looks, keeps}
use Rattle.fix_engine.specs.LookBack.{loses, cuts, fails, asks, Closes, nothing_more, keeps_it, loses_it, cuts_off}
use Rattle.fix_engine.specs.LookBack.{Recounts, done, calls, answers, sends, sends_not, ends, IsShown, LooksBack}
use Rattle.fix_engine.proofs.LookBackLemmas.{bytes_read-append, behind_frame, next_frame, no_frame, more_bytes}
use Rattle.fix_engine.proofs.LookBackLemmas.{state_more, stream_more, clock_stands, draft_stands}
use Rattle.fix_engine.proofs.Shown.{shown_behind, shown_before, frame_shown}
use Rattle.fix_engine.proofs.Turns.{never_spent}

-- no fault of a draft lets a turn go on
never_ok : (why : SendFault) → sent_ending {T = ℕ} (Err why) ≢ Ok tt
never_ok (fault.Stopped cause.StoreFault) h = cc
never_ok (fault.Stopped cause.AppFault) h = cc
never_ok (fault.Stopped cause.OutOfMemory) h = cc
never_ok fault.NumbersSpent h = cc
never_ok fault.OutOfMemory h = cc
never_ok fault.StoreFault h = cc
never_ok (fault.LinkFault n) h = cc

module _ (id : Identity) (start : State) where
  -- the notes of what went on, from where these frames were answered and these acts done
  record Went (answered : List (List ℕ)) (acts : List Act) (notes : List Note) (to : ConnectionSeen) : Type 0 where
    now : List (List ℕ)
    behind : List Act
    are : behind ≡ acts ++ acts_of notes
    stands : StandsAt start now behind to
    goes_on : (more : List Note) (last : List (List ℕ)) → Recounts id start now behind more last →
        Recounts id start answered acts (notes ++ more) last

  -- the notes of what ended
  record Ended (answered : List (List ℕ)) (acts : List Act) (notes : List Note) (to : ConnectionSeen) : Type 0 where
    now : List (List ℕ)
    closes : (more : List Note) → Closes to.state.expected more → Recounts id start answered acts (notes ++ more) now

  -- the same, with why it ended
  record Why (answered : List (List ℕ)) (acts : List Act) (notes : List Note) (e : Ending) (to : ConnectionSeen) : Type 0 where
    ended : Ended answered acts notes to
    shown : IsShown (run_end (Err e)) ended.now (acts_of notes)

  -- what comes behind the end, where no frame made it
  closing : (answered : List (List ℕ)) (n : ℕ) (acts : List Act) (more : List Note) →
      n ≡ start.expected + length answered → Closes n more → Recounts id start answered acts more answered
  closing answered n acts more e nothing_more = done
  closing answered n acts more e (keeps_it {more = rest} c) =
      calls (subst (λ k. Calls start answered acts (Did (act.Kept (Expect k)))) (sym e) keeps)
      (closing answered n (acts ++ act.Kept (Expect n) ∷ []) rest e c)
  closing answered n acts more e (loses_it {more = rest} c) =
      calls (subst (λ k. Calls start answered acts (Did (act.KeepLost (Expect k)))) (sym e) loses)
      (calls (fails StorePart) (closing answered n ((acts ++ act.KeepLost (Expect n) ∷ []) ++ []) rest e c))
  closing answered n acts more e cuts_off = calls cuts done

  expected_is : (answered : List (List ℕ)) (acts : List Act) (l : ConnectionSeen) → l.state ≡ state_at start answered acts →
      l.state.expected ≡ start.expected + length answered
  expected_is answered acts l e = ap (λ (s : State). s.expected) e

  -- what went on may end here
  may_end : (answered : List (List ℕ)) (acts : List Act) (notes : List Note) (to : ConnectionSeen) →
      Went answered acts notes to → Ended answered acts notes to
  may_end answered acts notes to w = record {
    now = w.now;
    closes = λ more c. w.goes_on more w.now (closing w.now to.state.expected w.behind more
        (expected_is w.now w.behind to w.stands.state) c);
  }

  -- nothing was done
  went_nowhere : (answered : List (List ℕ)) (acts : List Act) (l : ConnectionSeen) → StandsAt start answered acts l →
      Went answered acts [] l
  went_nowhere answered acts l s = record {
    now = answered;
    behind = acts;
    are = sym (append-nil acts);
    stands = s;
    goes_on = λ more last r. r;
  }

  ends_here : (answered : List (List ℕ)) (acts : List Act) (to : ConnectionSeen) →
      to.state.expected ≡ start.expected + length answered → Ended answered acts [] to
  ends_here answered acts to e = record {
    now = answered;
    closes = λ more c. closing answered to.state.expected acts more e c;
  }

  -- one call that answers no frame
  one_call : (answered : List (List ℕ)) (acts : List Act) (note : Note) (to : ConnectionSeen) → Calls start answered acts note →
      StandsAt start answered (acts ++ acts_of (note ∷ [])) to → Went answered acts (note ∷ []) to
  one_call answered acts note to c s = record {
    now = answered;
    behind = acts ++ acts_of (note ∷ []);
    are = refl;
    stands = s;
    goes_on = λ more last r. calls c r;
  }

  one_call_ends : (answered : List (List ℕ)) (acts : List Act) (note : Note) (to : ConnectionSeen) →
      Calls start answered acts note → to.state.expected ≡ start.expected + length answered →
      Ended answered acts (note ∷ []) to
  one_call_ends answered acts note to c e =
      record {
        now = answered;
        closes = λ more k. calls c
            (closing answered to.state.expected (acts ++ acts_of (note ∷ [])) more e k);
      }

  -- one part and then another
  then_went : (answered : List (List ℕ)) (acts : List Act) (xs ys : List Note) (mid to : ConnectionSeen) →
      (w : Went answered acts xs mid) → Went w.now w.behind ys to → Went answered acts (xs ++ ys) to
  then_went answered acts xs ys mid to w v = record {
    now = v.now;
    behind = v.behind;
    are = v.are ∙ ap (λ (z : List Act). z ++ acts_of ys) w.are ∙ append_assoc acts (acts_of xs) (acts_of ys) ∙
        ap (λ (z : List Act). acts ++ z) (sym (acts_of-append xs ys));
    stands = v.stands;
    goes_on = λ more last r. subst (λ z. Recounts id start answered acts z last) (sym (append_assoc xs ys more))
        (w.goes_on (ys ++ more) last (v.goes_on more last r));
  }

  abbrev then_ended : (answered : List (List ℕ)) (acts : List Act) (xs ys : List Note) (mid to : ConnectionSeen) →
      (w : Went answered acts xs mid) → Ended w.now w.behind ys to → Ended answered acts (xs ++ ys) to
  then_ended answered acts xs ys mid to w v = record {
    now = v.now;
    closes = λ more c. subst (λ z. Recounts id start answered acts z v.now) (sym (append_assoc xs ys more))
        (w.goes_on (ys ++ more) v.now (v.closes more c));
  }

  then_why : (answered : List (List ℕ)) (acts : List Act) (xs ys : List Note) (e : Ending) (mid to : ConnectionSeen) →
      (w : Went answered acts xs mid) → Why w.now w.behind ys e to → Why answered acts (xs ++ ys) e to
  then_why answered acts xs ys e mid to w v =
      record {
        ended = then_ended answered acts xs ys mid to w v.ended;
        shown = shown_behind (run_end (Err e)) v.ended.now xs ys v.shown;
      }

  -- ---- the frames

  -- the frame is answered as the state is by looking back
  one_frame : (answered : List (List ℕ)) (acts : List Act) (s mid : State) (from behind : UnreadBytes) (frame : List ℕ)
      (first : List Note) → s ≡ state_at start answered acts → AreFramesTo (bytes_read acts) answered from →
      GivesFrame from behind frame → AnswerFrame id s frame first (Ok tt) mid
      → (more : List Note) (last : List (List ℕ)) →
      Recounts id start (answered ++ frame ∷ []) (acts ++ acts_of first) more last →
      Recounts id start answered acts (first ++ more) last
  one_frame answered acts s mid from behind frame first e f gives h more last r =
      let known : AnswerFrame id (state_at start answered acts) frame first (Ok tt) mid =
      subst (λ s. AnswerFrame id s frame first (Ok tt) mid) e h in
      let b = behind_frame id start answered acts frame first mid known in
      answers frame
      (record { behind = behind; stands = next_frame (bytes_read acts) answered from behind frame f gives })
      (subst (λ m. AnswerFrame id (state_at start answered acts) frame first (Ok tt) m) b.state known) r

  AnswerFrames-went : (answered : List (List ℕ)) (acts : List Act) (l : ConnectionSeen) (notes : List Note) (to : ConnectionSeen) →
      l.state ≡ state_at start answered acts → AreFramesTo (bytes_read acts) answered l.unread →
      AnswerFrames id l notes (Ok tt) to → Went answered acts notes to
  AnswerFrames-went answered acts l notes to e f (turn.no_more {a = from} {b = b} gives) =
      went_nowhere answered acts to
      (record {
        state = e;
        all = record {
          stands = no_frame (bytes_read acts) answered from b f gives;
          end = gives.end.none;
        };
      })
  AnswerFrames-went answered acts l notes to e f (turn.goes {s = s} {mid = mid} {a = from} {b = b} {first = first}
      {more = more} frame gives h k) =
      let known : AnswerFrame id (state_at start answered acts) frame first (Ok tt) mid =
      subst (λ s. AnswerFrame id s frame first (Ok tt) mid) e h in
      let behind = behind_frame id start answered acts frame first mid known in
      let place : AreFramesTo (bytes_read (acts ++ acts_of first)) (answered ++ frame ∷ []) b =
      subst (λ (w : List ℕ). AreFramesTo w (answered ++ frame ∷ []) b) (sym behind.stream)
      (next_frame (bytes_read acts) answered from b frame f gives) in
      let w = AnswerFrames-went (answered ++ frame ∷ []) (acts ++ acts_of first) (connection_seen mid b) more to behind.state place k in
      record {
        now = w.now;
        behind = w.behind;
        are = w.are ∙ append_assoc acts (acts_of first) (acts_of more) ∙
            ap (λ (z : List Act). acts ++ z) (sym (acts_of-append first more));
        stands = w.stands;
        goes_on = λ x last r. subst (λ z. Recounts id start answered acts z last) (sym (append_assoc first more x))
            (one_frame answered acts s mid from b frame first e f gives h (more ++ x) last (w.goes_on x last r));
      }

  AnswerFrames-why : (answered : List (List ℕ)) (acts : List Act) (l : ConnectionSeen) (notes : List Note) (e : Ending) (to : ConnectionSeen) →
      l.state ≡ state_at start answered acts → AreFramesTo (bytes_read acts) answered l.unread →
      AnswerFrames id l notes (Err e) to → Why answered acts notes e to
  AnswerFrames-why answered acts l notes e to same f (turn.ends {s' = s'} {a = from} {b = b} frame gives h) =
      let known : AnswerFrame id (state_at start answered acts) frame notes (Err e) s' =
      subst (λ s. AnswerFrame id s frame notes (Err e) s') same h in
      record {
        ended = record {
          now = answered ++ frame ∷ [];
          closes = λ more c. ends frame
              (record { behind = b; stands = next_frame (bytes_read acts) answered from b frame f gives }) known c;
        };
        shown = frame_shown id start answered acts (acts_of notes) frame notes e s' known;
      }
  AnswerFrames-why answered acts l notes e to same f
      (turn.goes {s = s} {mid = mid} {a = from} {b = b} {first = first} {more = more} frame gives h k) =
      let known : AnswerFrame id (state_at start answered acts) frame first (Ok tt) mid =
      subst (λ s. AnswerFrame id s frame first (Ok tt) mid) same h in
      let behind = behind_frame id start answered acts frame first mid known in
      let place : AreFramesTo (bytes_read (acts ++ acts_of first)) (answered ++ frame ∷ []) b =
      subst (λ (w : List ℕ). AreFramesTo w (answered ++ frame ∷ []) b) (sym behind.stream)
      (next_frame (bytes_read acts) answered from b frame f gives) in
      let w = AnswerFrames-why (answered ++ frame ∷ []) (acts ++ acts_of first) (connection_seen mid b) more e to behind.state place k in
      record {
        ended = record {
          now = w.ended.now;
          closes = λ x c. subst (λ z. Recounts id start answered acts z w.ended.now) (sym (append_assoc first more x))
              (one_frame answered acts s mid from b frame first same f gives h (more ++ x) w.ended.now
              (w.ended.closes x c));
        };
        shown = shown_behind (run_end (Err e)) w.ended.now first more w.shown;
      }

  -- ---- a read

  -- bytes came
  read_state : (answered : List (List ℕ)) (acts : List Act) (l : ConnectionSeen) (b : List ℕ) → StandsAt start answered acts l →
      l.state ≡ state_at start answered (acts ++ act.Read b ∷ [])
  read_state answered acts l b s = s.state ∙
      state_more start answered acts (act.Read b ∷ []) (state_at start answered acts) refl refl refl refl refl

  read_place : (answered : List (List ℕ)) (acts : List Act) (l : ConnectionSeen) (b : List ℕ) → StandsAt start answered acts l →
      AreFramesTo (bytes_read (acts ++ act.Read b ∷ [])) answered (fed l.unread b)
  read_place answered acts l b s =
      subst (λ (w : List ℕ). AreFramesTo w answered (fed l.unread b))
      (sym (bytes_read-append acts (act.Read b ∷ []) ∙ ap (λ (w : List ℕ). bytes_read acts ++ w) (append-nil b)))
      (more_bytes (bytes_read acts) b answered l.unread s.all.stands)

  ReadFrames-went : (answered : List (List ℕ)) (acts : List Act) (l : ConnectionSeen) (notes : List Note) (to : ConnectionSeen) →
      StandsAt start answered acts l → ReadFrames id l notes (Ok tt) to → Went answered acts notes to
  ReadFrames-went answered acts l notes to s (turn.bytes {more = more} b some fits (turn.fed_frames d)) =
      let w = AnswerFrames-went answered (acts ++ act.Read b ∷ []) (connection_seen l.state (fed l.unread b)) more to
      (read_state answered acts l b s) (read_place answered acts l b s) d in
      record {
        now = w.now;
        behind = w.behind;
        are = w.are ∙ append_assoc acts (act.Read b ∷ []) (acts_of more);
        stands = w.stands;
        goes_on = λ x last r. calls (reads b) (w.goes_on x last r);
      }
  ReadFrames-went answered acts l notes to s turn.idle =
      one_call answered acts (Did act.Idle) l idles
      (record {
        state = s.state ∙ state_more start answered acts (act.Idle ∷ []) (state_at start answered acts)
            refl refl refl refl refl;
        all = stream_more answered acts (act.Idle ∷ []) l.unread refl s.all;
      })

  ReadFrames-why : (answered : List (List ℕ)) (acts : List Act) (l : ConnectionSeen) (notes : List Note) (e : Ending) (to : ConnectionSeen) →
      StandsAt start answered acts l → ReadFrames id l notes (Err e) to → Why answered acts notes e to
  ReadFrames-why answered acts l notes e to s (turn.bytes {more = more} b some fits (turn.fed_frames d)) =
      let w = AnswerFrames-why answered (acts ++ act.Read b ∷ []) (connection_seen l.state (fed l.unread b)) more e to
      (read_state answered acts l b s) (read_place answered acts l b s) d in
      record {
        ended = record { now = w.ended.now; closes = λ x c. calls (reads b) (w.ended.closes x c) };
        shown = shown_behind (run_end (Err e)) w.ended.now (Did (act.Read b) ∷ []) more w.shown;
      }
  ReadFrames-why answered acts l notes e to s (turn.bytes b some fits turn.fed_memory) =
      record {
        ended = one_call_ends answered acts (Did (act.Read b)) l (reads b)
            (expected_is answered acts l s.state);
        shown = tt;
      }
  ReadFrames-why answered acts l notes e to s turn.over =
      record {
        ended = one_call_ends answered acts (Did act.Ended) to is_over (expected_is answered acts l s.state);
        shown = here;
      }
  ReadFrames-why answered acts l notes e to s turn.read_lost =
      record {
        ended = one_call_ends answered acts (Failed (LinkPart 0)) l (fails (LinkPart 0))
            (expected_is answered acts l s.state);
        shown = tt;
      }
  ReadFrames-why answered acts l notes e to s turn.read_memory =
      record { ended = ends_here answered acts l (expected_is answered acts l s.state); shown = tt }

  -- ---- a look at the clock

  ReadClock-went : (answered : List (List ℕ)) (acts : List Act) (l : ConnectionSeen) (notes : List Note) (to : ConnectionSeen) →
      StandsAt start answered acts l → ReadClock l notes (Ok tt) to → Went answered acts notes to
  ReadClock-went answered acts l notes to s (turn.now t) =
      one_call answered acts (Did (act.Now t)) (connection_seen (with_reading l.state t) l.unread) (looks t l.unread s.all)
      (clock_stands start answered acts l t s)

  ReadClock-why : (answered : List (List ℕ)) (acts : List Act) (l : ConnectionSeen) (notes : List Note) (e : Ending) (to : ConnectionSeen) →
      StandsAt start answered acts l → ReadClock l notes (Err e) to → Why answered acts notes e to
  ReadClock-why answered acts l notes e to s turn.now_memory =
      record { ended = ends_here answered acts l (expected_is answered acts l s.state); shown = tt }

  Read-went : (answered : List (List ℕ)) (acts : List Act) (l : ConnectionSeen) (notes : List Note) (to : ConnectionSeen) →
      StandsAt start answered acts l → AndThen (ReadFrames id) ReadClock l notes (Ok tt) to → Went answered acts notes to
  Read-went answered acts l notes to s (both {mid = mid} {first = first} {more = more} d k) =
      let w = ReadFrames-went answered acts l first mid s d in
      then_went answered acts first more mid to w (ReadClock-went w.now w.behind mid more to w.stands k)

  Read-why : (answered : List (List ℕ)) (acts : List Act) (l : ConnectionSeen) (notes : List Note) (e : Ending) (to : ConnectionSeen) →
      StandsAt start answered acts l → AndThen (ReadFrames id) ReadClock l notes (Err e) to → Why answered acts notes e to
  Read-why answered acts l notes e to s (first_ends d) = ReadFrames-why answered acts l notes e to s d
  Read-why answered acts l notes e to s (both {mid = mid} {first = first} {more = more} d k) =
      let w = ReadFrames-went answered acts l first mid s d in
      then_why answered acts first more e mid to w (ReadClock-why w.now w.behind mid more e to w.stands k)

  -- ---- a draft

  -- it is sent as the state is by looking back
  draft_went : (answered : List (List ℕ)) (acts : List Act) (l : ConnectionSeen) (draft : DraftText) (notes : List Note) (n : ℕ)
      (s' : State) → StandsAt start answered acts l → Drafting id draft l.state notes (Ok n) s' →
      Went answered acts notes (connection_seen s' l.unread)
  draft_went answered acts l draft notes n s' h d =
      let known : Drafting id draft (state_at start answered acts) notes (Ok n) s' =
      subst (λ s. Drafting id draft s notes (Ok n) s') h.state d in
      let stands = draft_stands id start answered acts draft l.state l.unread notes n s' h d in
      record {
        now = answered;
        behind = acts ++ acts_of notes;
        are = refl;
        stands = stands;
        goes_on =
            λ more last r. sends draft (subst (λ m. Drafting id draft (state_at start answered acts) notes (Ok n) m)
            stands.state known) r;
      }

  -- no draft makes a connection close
  fault_shown : (why : SendFault) (answered : List (List ℕ)) (acts : List Act) (e : Ending) →
      sent_ending {T = ℕ} (Err why) ≡ Err e → IsShown (run_end (Err e)) answered acts
  fault_shown why answered acts e h = subst (λ r. IsShown (run_end r) answered acts) h (shown why)
    where
      shown : (why : SendFault) → IsShown (run_end (sent_ending {T = ℕ} (Err why))) answered acts
      shown (fault.Stopped cause.StoreFault) = tt
      shown (fault.Stopped cause.AppFault) = tt
      shown (fault.Stopped cause.OutOfMemory) = tt
      shown fault.NumbersSpent = tt
      shown fault.OutOfMemory = tt
      shown fault.StoreFault = tt
      shown (fault.LinkFault n) = tt

  draft_why : (answered : List (List ℕ)) (acts : List Act) (l : ConnectionSeen) (draft : DraftText) (notes : List Note)
      (why : SendFault) (s' : State) (e : Ending) → StandsAt start answered acts l →
      sent_ending {T = ℕ} (Err why) ≡ Err e → Drafting id draft l.state notes (Err why) s' →
      Why answered acts notes e (connection_seen s' l.unread)
  draft_why answered acts l draft notes why s' e h same d =
      let known : Drafting id draft (state_at start answered acts) notes (Err why) s' =
      subst (λ s. Drafting id draft s notes (Err why) s') h.state d in
      record {
        ended = record { now = answered; closes = λ more c. sends_not draft known c };
        shown = fault_shown why answered (acts_of notes) e same;
      }

  SendDraft-went : (answered : List (List ℕ)) (acts : List Act) (d : TurnSeen) (draft : DraftText) (notes : List Note)
      (r : Result ⊤ Ending) (to : TurnSeen) → StandsAt start answered acts d.connection → r ≡ Ok tt →
      SendDraft id draft d notes r to → Went answered acts notes to.connection
  SendDraft-went answered acts d draft notes r to h ok (turns.spent few) = absurd cc
  SendDraft-went answered acts d draft notes r to h ok (turns.sends {r = sent} {s = s} few is k) = by-answer sent ok k
    where
      by-answer : (sent : Result ℕ SendFault) → sent_ending sent ≡ Ok tt →
          Drafting id draft d.connection.state notes sent s → Went answered acts notes (connection_seen s d.connection.unread)
      by-answer (Ok n) same k = draft_went answered acts d.connection draft notes n s h k
      by-answer (Err why) same k = absurd (never_ok why same)

  SendDraft-why : (answered : List (List ℕ)) (acts : List Act) (d : TurnSeen) (draft : DraftText) (notes : List Note)
      (r : Result ⊤ Ending) (e : Ending) (to : TurnSeen) → StandsAt start answered acts d.connection → r ≡ Err e →
      SendDraft id draft d notes r to → Why answered acts notes e to.connection
  SendDraft-why answered acts d draft notes r e to h same (turns.spent few) =
      record {
        ended = ends_here answered acts d.connection (expected_is answered acts d.connection h.state);
        shown = fault_shown fault.NumbersSpent _ [] e same;
      }
  SendDraft-why answered acts d draft notes r e to h same (turns.sends {r = sent} {s = s} few is k) = by-answer sent same k
    where
      by-answer : (sent : Result ℕ SendFault) → sent_ending sent ≡ Err e →
          Drafting id draft d.connection.state notes sent s → Why answered acts notes e (connection_seen s d.connection.unread)
      by-answer (Ok n) same k = absurd cc
      by-answer (Err why) same k = draft_why answered acts d.connection draft notes why s e h same k

  SendPending-went : (answered : List (List ℕ)) (acts : List Act) (d : TurnSeen) (notes : List Note) (to : TurnSeen) →
      StandsAt start answered acts d.connection → SendPending id d notes (Ok tt) to → Went answered acts notes to.connection
  SendPending-went answered acts d notes to h (turns.empty none) = went_nowhere answered acts d.connection h
  SendPending-went answered acts d notes to h (turns.holds draft some k) =
      SendDraft-went answered acts d draft notes (Ok tt) to h refl k

  SendPending-why : (answered : List (List ℕ)) (acts : List Act) (d : TurnSeen) (notes : List Note) (e : Ending) (to : TurnSeen) →
      StandsAt start answered acts d.connection → SendPending id d notes (Err e) to → Why answered acts notes e to.connection
  SendPending-why answered acts d notes e to h (turns.holds draft some k) =
      SendDraft-why answered acts d draft notes (Err e) e to h refl k

  -- the application was asked
  asked_went : (answered : List (List ℕ)) (acts : List Act) (l : ConnectionSeen) (given : Option (List ℕ)) →
      StandsAt start answered acts l → Went answered acts (Asked given ∷ []) l
  asked_went answered acts l given h = one_call answered acts (Asked given) l (asks given)
      (subst (λ (z : List Act). StandsAt start answered z l) (sym (append-nil acts)) h)

  OfferDraft-went : (answered : List (List ℕ)) (acts : List Act) (d : TurnSeen) (notes : List Note) (to : TurnSeen) →
      StandsAt start answered acts d.connection → OfferDraft id d notes (Ok tt) to → Went answered acts notes to.connection
  OfferDraft-went answered acts d notes to h (turns.not_up other) = went_nowhere answered acts d.connection h
  OfferDraft-went answered acts d notes to h (turns.asked {notes = more} given up none k) =
      let w = asked_went answered acts d.connection (option_map draft_body given) h in
      then_went answered acts (Asked (option_map draft_body given) ∷ []) more d.connection to.connection w
      (SendPending-went w.now w.behind (turn_seen d.connection (record { draft = given; store_failed = d.pending.store_failed })) more to w.stands
      k)
  OfferDraft-went answered acts d notes to h (turns.was_in_hand draft up some k) =
      SendDraft-went answered acts d draft notes (Ok tt) to h refl k

  OfferDraft-why : (answered : List (List ℕ)) (acts : List Act) (d : TurnSeen) (notes : List Note) (e : Ending) (to : TurnSeen) →
      StandsAt start answered acts d.connection → OfferDraft id d notes (Err e) to → Why answered acts notes e to.connection
  OfferDraft-why answered acts d notes e to h (turns.asked {notes = more} given up none k) =
      let w = asked_went answered acts d.connection (option_map draft_body given) h in
      then_why answered acts (Asked (option_map draft_body given) ∷ []) more e d.connection to.connection w
      (SendPending-why w.now w.behind (turn_seen d.connection (record { draft = given; store_failed = d.pending.store_failed })) more e to
      w.stands k)
  OfferDraft-why answered acts d notes e to h (turns.was_in_hand draft up some k) =
      SendDraft-why answered acts d draft notes (Err e) e to h refl k

  -- ---- a draft, a read, and a look at the clock

  SendReadClock-went : (answered : List (List ℕ)) (acts : List Act) (d : TurnSeen) (notes : List Note) (to : TurnSeen) →
      StandsAt start answered acts d.connection → SendReadClock id d notes (Ok tt) to → Went answered acts notes to.connection
  SendReadClock-went answered acts d notes to s (both {mid = mid} {first = first} {more = more} o (beside {to = at} k)) =
      let w = OfferDraft-went answered acts d first mid s o in
      then_went answered acts first more mid.connection at w (Read-went w.now w.behind mid.connection more at w.stands k)

  SendReadClock-why : (answered : List (List ℕ)) (acts : List Act) (d : TurnSeen) (notes : List Note) (e : Ending) (to : TurnSeen) →
      StandsAt start answered acts d.connection → SendReadClock id d notes (Err e) to → Why answered acts notes e to.connection
  SendReadClock-why answered acts d notes e to s (first_ends o) = OfferDraft-why answered acts d notes e to s o
  SendReadClock-why answered acts d notes e to s (both {mid = mid} {first = first} {more = more} o (beside {to = at} k)) =
      let w = OfferDraft-went answered acts d first mid s o in
      then_why answered acts first more e mid.connection at w (Read-why w.now w.behind mid.connection more e at w.stands k)

  -- however it ended
  SendReadClock-ended : (answered : List (List ℕ)) (acts : List Act) (d : TurnSeen) (notes : List Note) (met : Result ⊤ Ending)
      (to : TurnSeen) → StandsAt start answered acts d.connection → SendReadClock id d notes met to → Ended answered acts notes to.connection
  SendReadClock-ended answered acts d notes (Ok x) to s m =
      may_end answered acts notes to.connection (SendReadClock-went answered acts d notes to s m)
  SendReadClock-ended answered acts d notes (Err e) to s m = (SendReadClock-why answered acts d notes e to s m).ended

  -- ---- the expected number

  StoreExpected-went : (answered : List (List ℕ)) (acts : List Act) (l : ConnectionSeen) (notes : List Note) (to : ConnectionSeen) →
      StandsAt start answered acts l → StoreExpected l notes (Ok tt) to → Went answered acts notes to
  StoreExpected-went answered acts l notes to s (turn.same h) = went_nowhere answered acts l s
  StoreExpected-went answered acts l notes to s (turn.kept h) =
      let n : l.state.expected ≡ start.expected + length answered = expected_is answered acts l s.state in
      one_call answered acts (Did (act.Kept (Expect l.state.expected))) (connection_seen (with_stored_expected l.state) l.unread)
      (subst (λ k. Calls start answered acts (Did (act.Kept (Expect k)))) (sym n) keeps) (record {
        state = state_more start answered acts (act.Kept (Expect l.state.expected) ∷ []) (with_stored_expected l.state)
            (ap (λ (z : State). z.phase) s.state) n refl (ap (λ (z : State). z.last) s.state)
            (ap (λ (z : State). z.reading) s.state);
        all = stream_more answered acts (act.Kept (Expect l.state.expected) ∷ []) l.unread refl s.all;
      })

  -- it may be kept behind an end, too
  kept_closes : (l to : ConnectionSeen) (notes more : List Note) → StoreExpected l notes (Ok tt) to →
      Closes to.state.expected more → Closes l.state.expected (notes ++ more)
  kept_closes l to notes more (turn.same h) c = c
  kept_closes l to notes more (turn.kept h) c = keeps_it c

  lost_closes : (l to : ConnectionSeen) (notes more : List Note) (e : Ending) → StoreExpected l notes (Err e) to →
      Closes to.state.expected more → Closes l.state.expected (notes ++ more)
  lost_closes l to notes more e (turn.expect_lost h) c = loses_it c
  lost_closes l to notes more e (turn.expect_memory h) c = c

  lost_shown : (l to : ConnectionSeen) (notes : List Note) (e : Ending) (answered : List (List ℕ)) (acts : List Act) →
      StoreExpected l notes (Err e) to → IsShown (run_end (Err e)) answered acts
  lost_shown l to notes e answered acts (turn.expect_lost h) = tt
  lost_shown l to notes e answered acts (turn.expect_memory h) = tt

  abbrev ended_more : (answered : List (List ℕ)) (acts : List Act) (xs ys : List Note) (mid to : ConnectionSeen) →
      Ended answered acts xs mid → ((more : List Note) → Closes to.state.expected more →
      Closes mid.state.expected (ys ++ more)) → Ended answered acts (xs ++ ys) to
  ended_more answered acts xs ys mid to w behind =
      record {
        now = w.now;
        closes = λ more c. subst (λ z. Recounts id start answered acts z w.now)
            (sym (append_assoc xs ys more)) (w.closes (ys ++ more) (behind more c));
      }

  -- ---- a turn

  Turn-went : (answered : List (List ℕ)) (acts : List Act) (d : TurnSeen) (notes : List Note) (to : TurnSeen) →
      StandsAt start answered acts d.connection → Turn id d notes (Ok tt) to → Went answered acts notes to.connection
  Turn-went answered acts d notes to s (turns.stops h m) = absurd cc
  Turn-went answered acts d notes to s (turns.keeps {mid = mid} {first = first} {more = more} h m
      (beside {to = at} k)) =
      let w = SendReadClock-went answered acts d first mid s m in
      then_went answered acts first more mid.connection at w (StoreExpected-went w.now w.behind mid.connection more at w.stands k)

  Turn-why : (answered : List (List ℕ)) (acts : List Act) (d : TurnSeen) (notes : List Note) (e : Ending) (to : TurnSeen) →
      StandsAt start answered acts d.connection → Turn id d notes (Err e) to → Why answered acts notes e to.connection
  Turn-why answered acts d notes e to s (turns.stops h m) = SendReadClock-why answered acts d notes e to s m
  Turn-why answered acts d notes e to s (turns.keeps {mid = mid} {first = first} {more = more} h m
      (beside {to = at} k)) =
      let w = SendReadClock-why answered acts d first e mid s m in
      record {
        ended = ended_more answered acts first more mid.connection at w.ended (λ x c. kept_closes mid.connection at more x k c);
        shown = shown_before (run_end (Err e)) w.ended.now first more w.shown;
      }
  Turn-why answered acts d notes e to s (turns.keeps_not {mid = mid} {met = met} {first = first} {more = more} h m
      (beside {to = at} k)) =
      let w = SendReadClock-ended answered acts d first met mid s m in
      record {
        ended = ended_more answered acts first more mid.connection at w (λ x c. lost_closes mid.connection at more x e k c);
        shown = lost_shown mid.connection at more e w.now (acts_of (first ++ more)) k;
      }

  TakeTurns-went : (us : List ⊤) (answered : List (List ℕ)) (acts : List Act) (d : TurnSeen) (notes : List Note) (to : TurnSeen) →
      StandsAt start answered acts d.connection → Each (OneTurn id) d us notes (Ok tt) to → Went answered acts notes to.connection
  TakeTurns-went [] answered acts d notes to s fold.none = went_nowhere answered acts d.connection s
  TakeTurns-went (u ∷ us) answered acts d notes to s (fold.goes {mid = mid} {first = first} {more = more} t k) =
      let w = Turn-went answered acts d first mid s t in
      then_went answered acts first more mid.connection to.connection w (TakeTurns-went us w.now w.behind mid more to w.stands k)

  TakeTurns-why : (us : List ⊤) (answered : List (List ℕ)) (acts : List Act) (d : TurnSeen) (notes : List Note) (e : Ending)
      (to : TurnSeen) → StandsAt start answered acts d.connection → Each (OneTurn id) d us notes (Err e) to →
      Why answered acts notes e to.connection
  TakeTurns-why [] answered acts d notes e to s t = elim t [ ]
  TakeTurns-why (u ∷ us) answered acts d notes e to s (fold.ends t) = Turn-why answered acts d notes e to s t
  TakeTurns-why (u ∷ us) answered acts d notes e to s (fold.goes {mid = mid} {first = first} {more = more} t k) =
      let w = Turn-went answered acts d first mid s t in
      then_why answered acts first more e mid.connection to.connection w (TakeTurns-why us w.now w.behind mid more e to w.stands k)

  -- ---- a run

  -- it ended, and nothing came behind
  closed : (answered : List (List ℕ)) (acts : List Act) (notes : List Note) (to : ConnectionSeen)
      (w : Ended answered acts notes to) → Recounts id start answered acts notes w.now
  closed answered acts notes to w = subst (λ z. Recounts id start answered acts z w.now) (append-nil notes)
      (w.closes [] nothing_more)

  pub RunAndCut-looks_back : (n : ℕ) (answered : List (List ℕ)) (acts : List Act) (d : TurnSeen) (notes : List Note)
      (r : Result ⊤ Ending) (to : TurnSeen) → StandsAt start answered acts d.connection → RunAndCut id n d notes r to →
      LooksBack id start answered acts (run_end r) to.connection notes
  RunAndCut-looks_back n answered acts d notes r to s (turns.all_turns t) =
      let w = TakeTurns-went (replicate n tt) answered acts d notes to s t in
      record {
        frames = w.now;
        recounts = subst (λ z. Recounts id start answered acts z w.now) (append-nil notes) (w.goes_on [] w.now done);
        goes_on = λ h. subst (λ z. StandsAt start w.now z to.connection) w.are w.stands;
        shown = tt;
      }
  RunAndCut-looks_back n answered acts d notes r to s (turns.cut {to = at} {notes = xs} {e = e} h t) =
      let w = TakeTurns-why (replicate n tt) answered acts d xs e at s t in
      record {
        frames = w.ended.now;
        recounts = w.ended.closes (Did act.Cut ∷ []) cuts_off;
        goes_on = λ h. absurd (never_spent e h);
        shown = shown_before (run_end (Err e)) w.ended.now xs (Did act.Cut ∷ []) w.shown;
      }
  RunAndCut-looks_back n answered acts d notes r to s (turns.cut_memory {to = at} {e = e} h t) =
      let w = TakeTurns-why (replicate n tt) answered acts d notes e at s t in
      record {
        frames = w.ended.now;
        recounts = closed answered acts notes at.connection w.ended;
        goes_on = λ h. absurd (never_spent ending.OutOfMemory h);
        shown = tt;
      }
  RunAndCut-looks_back n answered acts d notes r to s (turns.no_cut {to = at} {e = e} h t) =
      let w = TakeTurns-why (replicate n tt) answered acts d notes e at s t in
      record {
        frames = w.ended.now;
        recounts = closed answered acts notes at.connection w.ended;
        goes_on = λ h. absurd (never_spent e h);
        shown = w.shown;
      }

-- a run by looking back over its connection
pub looks_back : (id : Identity) (n : ℕ) (d : TurnSeen) (r : Result ⊤ Ending) (to : TurnSeen) (old new : OutsideSeen) →
    HasTrace old new (λ notes. RunAndCut id n d notes r to) → (start : State) (answered : List (List ℕ)) (acts : List Act) →
    StandsAt start answered acts d.connection → HasTrace old new (LooksBack id start answered acts (run_end r) to.connection)
looks_back id n d r to old new g start answered acts s =
    (g.0, g.1, RunAndCut-looks_back id start n answered acts d g.0 r to s g.2)
