-- The state and the place in the stream that are found by looking back.
use Rattle.std.proofs.Common.{◌≡◌, ◌≢◌, ℕ, ◌+◌, ◌==◌, length, List, [], ◌∷◌, ◌++◌, min, Bool, true, false, Option, Some, None, Result, Ok, Err, refl, sym, ap, subst, ◌∙◌, append_assoc, length-append, arith}
use Rattle.std.proofs.lemmas.List.{append-nil}
use Rattle.std.specs.Prelude.{if◌then◌else◌, OnOk}
use Rattle.fix_base.specs.declared.identity.Identity.{Identity}
use Rattle.fix_base.specs.declared.act.Act.{Act}
use Rattle.fix_base.specs.declared.act.Act.TheVariants as act
use Rattle.fix_base.specs.declared.entry.Record.TheVariants.{Push, Expect, Many, Withhold, Reset, ResetAsk, Confirm}
use Rattle.fix_base.specs.Payload.{LAST_TIME}
use Rattle.fix_base.specs.Reader.{bytes_read}
use Rattle.fix_base.specs.Stream.{UnreadBytes, Item, Frame, frames}
use Rattle.fix_base.specs.Trace.{Note, OutsideSeen, HasTrace, acts_of}
use Rattle.fix_base.proofs.Runs.{all_more, all_then, frames-append}
use Rattle.fix_fields.specs.Drafted.{DraftText}
use Rattle.fix_frame.specs.Given.{GivesFrame, GivesNone}
use Rattle.fix_engine.specs.State.{State, Phase, Down, AwaitLogon, Up, with_reading}
use Rattle.fix_engine.specs.declared.stop.SendFault.{SendFault}
use Rattle.fix_engine.specs.Fold.{Each, none, goes}
use Rattle.fix_engine.specs.Inbound.{InboundSeen}
use Rattle.fix_engine.specs.Answer.{Performed, nothing, count, go_up, taken, sent, AnswerFrame, answer_in, logon_answer, logon_steps, logout_answer, app_answer, not_built, refused}
use Rattle.fix_engine.specs.Reading.{ConnectionSeen, connection_seen, fed}
use Rattle.fix_engine.specs.Drafted as drafted
use Rattle.fix_engine.specs.Drafted.{Drafting, SendsTo}
use Rattle.fix_engine.specs.LookBack.{last_sent, last_kept, last_reading, phase_behind, state_at, AreFramesTo, AreAll, StandsAt}

-- ---- acts behind others

pub last_sent-append : (n : ℕ) (xs ys : List Act) → last_sent n (xs ++ ys) ≡ last_sent (last_sent n xs) ys
last_sent-append n [] ys = refl
last_sent-append n (act.Kept (Push entry) ∷ xs) ys = last_sent-append (n + 1) xs ys
last_sent-append n (act.Kept (Expect m) ∷ xs) ys = last_sent-append n xs ys
last_sent-append n (act.Kept (Many pushes m) ∷ xs) ys = last_sent-append (n + length pushes) xs ys
last_sent-append n (act.Kept (Withhold m) ∷ xs) ys = last_sent-append n xs ys
last_sent-append n (act.Kept (Reset t) ∷ xs) ys = last_sent-append 0 xs ys
last_sent-append n (act.Kept (ResetAsk t) ∷ xs) ys = last_sent-append 0 xs ys
last_sent-append n (act.Kept Confirm ∷ xs) ys = last_sent-append n xs ys
last_sent-append n (_ ∷ xs) ys = last_sent-append n xs ys

pub last_kept-append : (n : ℕ) (xs ys : List Act) → last_kept n (xs ++ ys) ≡ last_kept (last_kept n xs) ys
last_kept-append n [] ys = refl
last_kept-append n (act.Kept (Push entry) ∷ xs) ys = last_kept-append n xs ys
last_kept-append n (act.Kept (Expect m) ∷ xs) ys = last_kept-append m xs ys
last_kept-append n (act.Kept (Many pushes m) ∷ xs) ys = last_kept-append (if m == 0 then n else m) xs ys
last_kept-append n (act.Kept (Withhold m) ∷ xs) ys = last_kept-append n xs ys
last_kept-append n (act.Kept (Reset t) ∷ xs) ys = last_kept-append 1 xs ys
last_kept-append n (act.Kept (ResetAsk t) ∷ xs) ys = last_kept-append 1 xs ys
last_kept-append n (act.Kept Confirm ∷ xs) ys = last_kept-append n xs ys
last_kept-append n (_ ∷ xs) ys = last_kept-append n xs ys

pub last_reading-append : (t : ℕ) (xs ys : List Act) → last_reading t (xs ++ ys) ≡ last_reading (last_reading t xs) ys
last_reading-append t [] ys = refl
last_reading-append t (act.Now u ∷ xs) ys = last_reading-append (min u LAST_TIME) xs ys
last_reading-append t (_ ∷ xs) ys = last_reading-append t xs ys

pub bytes_read-append : (xs ys : List Act) → bytes_read (xs ++ ys) ≡ bytes_read xs ++ bytes_read ys
bytes_read-append [] ys = refl
bytes_read-append (act.Read b ∷ xs) ys = ap (λ (w : List ℕ). b ++ w) (bytes_read-append xs ys) ∙ sym (append_assoc b (bytes_read xs) (bytes_read ys))
bytes_read-append (_ ∷ xs) ys = bytes_read-append xs ys

pub same_state : (s t : State) → s.phase ≡ t.phase → s.expected ≡ t.expected → s.stored_expected ≡ t.stored_expected → s.last ≡ t.last → s.reading ≡ t.reading → s ≡ t
same_state s t p e k l r = λ i. record { phase = p i; expected = e i; stored_expected = k i; last = l i; reading = r i }

-- ---- what a frame that doesn't end the run changes

record Passed (s : State) (notes : List Note) (s' : State) : Type 0 where
  up : s'.phase ≡ Up
  expected : s'.expected ≡ s.expected + 1
  stored_expected : s'.stored_expected ≡ s.stored_expected
  last : s'.last ≡ last_sent s.last (acts_of notes)
  reading : s'.reading ≡ s.reading
  keeps : (n : ℕ) → last_kept n (acts_of notes) ≡ n
  looks : (t : ℕ) → last_reading t (acts_of notes) ≡ t
  reads : bytes_read (acts_of notes) ≡ []

logon : (id : Identity) (frame : List ℕ) (s : State) (heart : ℕ) (notes : List Note) (s' : State) → Each (Performed id frame) s (logon_steps s.expected heart) notes (Ok tt) s' → Passed s notes s'
logon id frame s heart notes s' (goes (sent say n text few is) (goes go_up (goes (count m) (goes nothing none)))) =
    record { up = refl; expected = refl; stored_expected = refl; last = refl; reading = refl; keeps = λ n. refl; looks = λ t. refl; reads = refl }

app : (id : Identity) (frame : List ℕ) (s : State) (notes : List Note) (s' : State) → s.phase ≡ Up → Each (Performed id frame) s (app_answer s.expected) notes (Ok tt) s' → Passed s notes s'
app id frame s notes s' up (goes (taken n marked fields has) (goes (count m) (goes nothing (goes nothing none)))) =
    record { up = up; expected = refl; stored_expected = refl; last = refl; reading = refl; keeps = λ n. refl; looks = λ t. refl; reads = refl }

not_built_never : (id : Identity) (frame : List ℕ) (s : State) (i : InboundSeen) (notes : List Note) (s' : State) → Each (Performed id frame) s (not_built i) notes (Ok tt) s' → ⊥
not_built_never id frame s i notes s' (goes d k) = elim d [ ]

refused_never : (id : Identity) (frame : List ℕ) (s : State) (i : InboundSeen) (notes : List Note) (s' : State) → Each (Performed id frame) s (refused i) notes (Ok tt) s' → ⊥
refused_never id frame s i notes s' (goes d k) = elim d [ ]

logout_never : (id : Identity) (frame : List ℕ) (s : State) (n : ℕ) (notes : List Note) (s' : State) → Each (Performed id frame) s (logout_answer n) notes (Ok tt) s' → ⊥
logout_never id frame s n notes s' (goes c (goes d (goes e k))) = elim e [ ]

logon_or_not : (id : Identity) (frame : List ℕ) (s : State) (heart : Option ℕ) (i : InboundSeen) (notes : List Note) (s' : State) → Each (Performed id frame) s (logon_answer s.expected heart i) notes (Ok tt) s' → Passed s notes s'
logon_or_not id frame s None i notes s' d = absurd (not_built_never id frame s i notes s' d)
logon_or_not id frame s (Some heart) i notes s' d = logon id frame s heart notes s' d

by-test : {A : Type 0} (P : A → Type 0) (t : Bool) (x y : A) → P x → P y → P (if t then x else y)
by-test P true x y h k = h
by-test P false x y h k = k

passed : (id : Identity) (frame : List ℕ) (p : Phase) (s : State) (i : InboundSeen) (notes : List Note) (s' : State) → s.phase ≡ p → p ≢ Down → Each (Performed id frame) s (answer_in p id s i) notes (Ok tt) s' → Passed s notes s'
passed id frame Down s i notes s' e h = λ d. absurd (h refl)
passed id frame AwaitLogon s i notes s' e h =
    by-test (λ steps. Each (Performed id frame) s steps notes (Ok tt) s' → Passed s notes s') _ (refused i) _ (λ d. absurd (refused_never id frame s i notes s' d))
    (by-test (λ steps. Each (Performed id frame) s steps notes (Ok tt) s' → Passed s notes s') _ (logon_answer s.expected i.heart i) (not_built i) (λ d. logon_or_not id frame s i.heart i notes s' d) (λ d. absurd (not_built_never id frame s i notes s' d)))
passed id frame Up s i notes s' e h =
    by-test (λ steps. Each (Performed id frame) s steps notes (Ok tt) s' → Passed s notes s') _ (not_built i) _ (λ d. absurd (not_built_never id frame s i notes s' d))
    (by-test (λ steps. Each (Performed id frame) s steps notes (Ok tt) s' → Passed s notes s') _ (logout_answer s.expected) _ (λ d. absurd (logout_never id frame s s.expected notes s' d))
    (by-test (λ steps. Each (Performed id frame) s steps notes (Ok tt) s' → Passed s notes s') _ (app_answer s.expected) (not_built i) (λ d. app id frame s notes s' e d) (λ d. absurd (not_built_never id frame s i notes s' d))))

phase_behind-up : (answered : List (List ℕ)) (frame : List ℕ) → phase_behind (answered ++ frame ∷ []) ≡ Up
phase_behind-up [] frame = refl
phase_behind-up (a ∷ answered) frame = refl

phase_behind-not_down : (answered : List (List ℕ)) → phase_behind answered ≢ Down
phase_behind-not_down [] h = cc
phase_behind-not_down (a ∷ answered) h = cc

-- the state behind a frame is found by looking back, too, and nothing was read in its answer
pub record IsBehind (start : State) (answered : List (List ℕ)) (acts : List Act) (frame : List ℕ) (notes : List Note) (s' : State) : Type 0 where
  pub state : s' ≡ state_at start (answered ++ frame ∷ []) (acts ++ acts_of notes)
  pub stream : bytes_read (acts ++ acts_of notes) ≡ bytes_read acts

pub behind_frame : (id : Identity) (start : State) (answered : List (List ℕ)) (acts : List Act) (frame : List ℕ) (notes : List Note) (s' : State) → AnswerFrame id (state_at start answered acts) frame notes (Ok tt) s' → IsBehind start answered acts frame notes s'
behind_frame id start answered acts frame notes s' h =
    let p = passed id frame (phase_behind answered) (state_at start answered acts) h.inbound notes s' refl (phase_behind-not_down answered) h.carried in
    record {
      state = same_state s' (state_at start (answered ++ frame ∷ []) (acts ++ acts_of notes)) (p.up ∙ sym (phase_behind-up answered frame))
          (omega (arith, p.expected, length-append answered (frame ∷ [])))
          (p.stored_expected ∙ sym (last_kept-append start.stored_expected acts (acts_of notes) ∙ p.keeps (last_kept start.stored_expected acts)))
          (p.last ∙ sym (last_sent-append start.last acts (acts_of notes)))
          (p.reading ∙ sym (last_reading-append start.reading acts (acts_of notes) ∙ p.looks (last_reading start.reading acts)));
      stream = bytes_read-append acts (acts_of notes) ∙ ap (λ (w : List ℕ). bytes_read acts ++ w) p.reads ∙ append-nil (bytes_read acts);
    }

-- ---- the stream

pub next_frame : (stream : List ℕ) (answered : List (List ℕ)) (a b : UnreadBytes) (frame : List ℕ) → AreFramesTo stream answered a → GivesFrame a b frame → AreFramesTo stream (answered ++ frame ∷ []) b
next_frame stream answered a b frame f g =
    let more : List Item = g.skips.items ++ Frame frame ∷ [] in
    let one : frames more ≡ frame ∷ [] = frames-append g.skips.items (Frame frame ∷ []) ∙ ap (λ (w : List (List ℕ)). w ++ frame ∷ []) g.skips.none in
    record {
      items = f.items ++ more;
      takes = all_then (record { may_mark = true; bytes = stream }) f.items a more b f.takes (all_then a g.skips.items g.at (Frame frame ∷ []) b g.skips.take (b, g.frame_there, refl));
      frames_are = ap (λ (w : List (List ℕ)). w ++ frame ∷ []) f.frames_are ∙ ap (λ (w : List (List ℕ)). frames f.items ++ w) (sym one) ∙ sym (frames-append f.items more);
    }

pub no_frame : (stream : List ℕ) (answered : List (List ℕ)) (a b : UnreadBytes) → AreFramesTo stream answered a → GivesNone a b → AreFramesTo stream answered b
no_frame stream answered a b f g = record {
  items = f.items ++ g.skips.items;
  takes = all_then (record { may_mark = true; bytes = stream }) f.items a g.skips.items b f.takes g.skips.take;
  frames_are = f.frames_are ∙ sym (frames-append f.items g.skips.items ∙ ap (λ (w : List (List ℕ)). frames f.items ++ w) g.skips.none ∙ append-nil (frames f.items));
}

pub more_bytes : (stream b : List ℕ) (answered : List (List ℕ)) (a : UnreadBytes) → AreFramesTo stream answered a → AreFramesTo (stream ++ b) answered (fed a b)
more_bytes stream b answered a f = record { items = f.items; takes = all_more (record { may_mark = true; bytes = stream }) f.items a b f.takes; frames_are = f.frames_are }

-- ---- the place behind acts that read nothing

-- the state behind some acts more
pub state_more : (start : State) (answered : List (List ℕ)) (acts more : List Act) (s : State) → s.phase ≡ (state_at start answered acts).phase → s.expected ≡ (state_at start answered acts).expected → s.stored_expected ≡ last_kept (last_kept start.stored_expected acts) more → s.last ≡ last_sent (last_sent start.last acts) more → s.reading ≡ last_reading (last_reading start.reading acts) more → s ≡ state_at start answered (acts ++ more)
state_more start answered acts more s p e k l r =
    same_state s (state_at start answered (acts ++ more)) p e (k ∙ sym (last_kept-append start.stored_expected acts more)) (l ∙ sym (last_sent-append start.last acts more)) (r ∙ sym (last_reading-append start.reading acts more))

-- the stream behind them
pub stream_more : (answered : List (List ℕ)) (acts more : List Act) (place : UnreadBytes) → bytes_read more ≡ [] → AreAll answered acts place → AreAll answered (acts ++ more) place
stream_more answered acts more place unread all = record {
  stands = subst (λ (w : List ℕ). AreFramesTo w answered place) (sym (bytes_read-append acts more ∙ ap (λ (w : List ℕ). bytes_read acts ++ w) unread ∙ append-nil (bytes_read acts))) all.stands;
  end = all.end;
}

-- a look at the clock
pub clock_stands : (start : State) (answered : List (List ℕ)) (acts : List Act) (l : ConnectionSeen) (t : ℕ) → StandsAt start answered acts l → StandsAt start answered (acts ++ act.Now t ∷ []) (connection_seen (with_reading l.state t) l.unread)
clock_stands start answered acts l t s = record {
  state = ap (λ (z : State). with_reading z t) s.state ∙ state_more start answered acts (act.Now t ∷ []) (with_reading (state_at start answered acts) t) refl refl refl refl refl;
  all = stream_more answered acts (act.Now t ∷ []) l.unread refl s.all;
}

-- ---- a draft

-- what a draft that is kept and written, or may not be written, changes
record Sent (s : State) (notes : List Note) (s' : State) : Type 0 where
  phase : s'.phase ≡ s.phase
  expected : s'.expected ≡ s.expected
  stored_expected : s'.stored_expected ≡ s.stored_expected
  last : s'.last ≡ last_sent s.last (acts_of notes)
  reading : s'.reading ≡ s.reading
  keeps : (n : ℕ) → last_kept n (acts_of notes) ≡ n
  looks : (t : ℕ) → last_reading t (acts_of notes) ≡ t
  reads : bytes_read (acts_of notes) ≡ []

draft_sent : (id : Identity) (draft : DraftText) (s : State) (notes : List Note) (n : ℕ) (s' : State) → Drafting id draft s notes (Ok n) s' → Sent s notes s'
draft_sent id draft s notes n s' (drafted.stored other (drafted.was_kept is)) =
    record { phase = refl; expected = refl; stored_expected = refl; last = refl; reading = refl; keeps = λ n. refl; looks = λ t. refl; reads = refl }
draft_sent id draft s notes n s' (drafted.sent text up said (drafted.was_kept is)) =
    record { phase = refl; expected = refl; stored_expected = refl; last = refl; reading = refl; keeps = λ n. refl; looks = λ t. refl; reads = refl }

-- the state behind it is found by looking back, and the place in the stream is the same
pub draft_stands : (id : Identity) (start : State) (answered : List (List ℕ)) (acts : List Act) (draft : DraftText) (s : State) (a : UnreadBytes) (notes : List Note) (n : ℕ) (s' : State) → StandsAt start answered acts (connection_seen s a) → Drafting id draft s notes (Ok n) s' → StandsAt start answered (acts ++ acts_of notes) (connection_seen s' a)
draft_stands id start answered acts draft s a notes n s' h d =
    let p = draft_sent id draft s notes n s' d in
    record {
      state = state_more start answered acts (acts_of notes) s'
          (p.phase ∙ ap (λ (z : State). z.phase) h.state)
          (p.expected ∙ ap (λ (z : State). z.expected) h.state)
          (p.stored_expected ∙ ap (λ (z : State). z.stored_expected) h.state ∙ sym (p.keeps (last_kept start.stored_expected acts)))
          (p.last ∙ ap (λ (z : State). last_sent z.last (acts_of notes)) h.state)
          (p.reading ∙ ap (λ (z : State). z.reading) h.state ∙ sym (p.looks (last_reading start.reading acts)));
      all = stream_more answered acts (acts_of notes) a p.reads h.all;
    }

-- so it is behind a `send` that answers a number
pub send_stands_at : (id : Identity) (draft : DraftText) (start : State) (answered : List (List ℕ)) (acts : List Act) (l to : ConnectionSeen) (n : ℕ) (notes : List Note) → StandsAt start answered acts l → SendsTo id draft l (Ok n) to notes → StandsAt start answered (acts ++ acts_of notes) to
send_stands_at id draft start answered acts l to n notes h (drafted.sends {s = s} few (drafted.went (drafted.at_time {notes = more} t d))) =
    subst (λ (w : List Act). StandsAt start answered w (connection_seen s l.unread)) (append_assoc acts (act.Now t ∷ []) (acts_of more))
    (draft_stands id start answered (acts ++ act.Now t ∷ []) draft (with_reading l.state t) l.unread more n s (clock_stands start answered acts l t h) d)

pub send_from_here : (id : Identity) (draft : DraftText) (l : ConnectionSeen) (r : Result ℕ SendFault) (to : ConnectionSeen) (old new : OutsideSeen) → HasTrace old new (SendsTo id draft l r to) → OnOk r ((start : State) (answered : List (List ℕ)) (acts : List Act) → StandsAt start answered acts l → HasTrace old new (λ notes. StandsAt start answered (acts ++ acts_of notes) to))
send_from_here id draft l (Err why) to old new g = tt
send_from_here id draft l (Ok n) to old new g = λ start answered acts h. (g.0, g.1, send_stands_at id draft start answered acts l to n g.0 h g.2)
