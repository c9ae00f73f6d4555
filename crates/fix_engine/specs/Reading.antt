-- What a turn does on a connection: one read with the frames that it completes, one look at the clock, and the
-- expected number kept.
use Rattle.std.specs.Prelude.{◌≡◌, ◌≢◌, ◌<◌, ◌≤◌, ◌∷◌, ◌++◌, ℕ, List, [], length, Result, Ok, Err, ⊤}
use Rattle.fix_base.specs.declared.identity.Identity.{Identity}
use Rattle.fix_base.specs.Stream.{UnreadBytes}
use Rattle.fix_base.specs.declared.entry.Record.TheVariants.{Expect}
use Rattle.fix_base.specs.declared.act.Act.TheVariants as act
use Rattle.fix_base.specs.Trace.{Note, Did, Failed, StorePart, LinkPart}
use Rattle.fix_frame.specs.Given.{GivesFrame, GivesNone}
use Rattle.fix_engine.specs.State.{State, Down, PeerEnd, Ending, with_phase, with_stored_expected, with_reading}
use Rattle.fix_engine.specs.declared.state.Ending.TheVariants as ending
use Rattle.fix_engine.specs.Answer.{AnswerFrame}

-- a session on a connection: its state, and the bytes that no frame was taken from yet
pub record ConnectionSeen : Type 0 where
  pub state : State
  pub unread : UnreadBytes

abbrev pub connection_seen : State → UnreadBytes → ConnectionSeen
connection_seen s a = record { state = s; unread = a }

-- more bytes came
abbrev pub fed : UnreadBytes → List ℕ → UnreadBytes
fed a bytes = record { may_mark = a.may_mark; bytes = a.bytes ++ bytes }

-- the frames that stand whole in the bytes, in order, until one ends the run
pub data AnswerFrames (id : Identity) : ConnectionSeen → List Note → Result ⊤ Ending → ConnectionSeen → Type 0 where
  no_more : {s : State} {a b : UnreadBytes} → GivesNone a b
      → AnswerFrames id (connection_seen s a) [] (Ok tt) (connection_seen s b)
  ends : {s s' : State} {a b : UnreadBytes} {notes : List Note} {e : Ending} (frame : List ℕ) → GivesFrame a b frame →
      AnswerFrame id s frame notes (Err e) s'
      → AnswerFrames id (connection_seen s a) notes (Err e) (connection_seen s' b)
  goes : {s mid : State} {to : ConnectionSeen} {a b : UnreadBytes} {first more : List Note} {r : Result ⊤ Ending}
      (frame : List ℕ) →
      GivesFrame a b frame → AnswerFrame id s frame first (Ok tt) mid
      → AnswerFrames id (connection_seen mid b) more r to →
      AnswerFrames id (connection_seen s a) (first ++ more) r to

-- these bytes came, and the frames that they complete
pub data Feed (id : Identity) (b : List ℕ) (l : ConnectionSeen) : List Note → Result ⊤ Ending → ConnectionSeen
    → Type 0 where
  fed_frames : {to : ConnectionSeen} {notes : List Note} {r : Result ⊤ Ending} →
      AnswerFrames id (connection_seen l.state (fed l.unread b)) notes r to → Feed id b l notes r to
  -- out of memory for the bytes
  fed_memory : Feed id b l [] (Err ending.OutOfMemory) l

-- one read, and the frames that it completes
pub data ReadFrames (id : Identity) (l : ConnectionSeen) : List Note → Result ⊤ Ending → ConnectionSeen → Type 0 where
  bytes : {to : ConnectionSeen} {more : List Note} {r : Result ⊤ Ending} (b : List ℕ) → 0 < length b
      → length b ≤ 65536 →
      Feed id b l more r to → ReadFrames id l (Did (act.Read b) ∷ more) r to
  idle : ReadFrames id l (Did act.Idle ∷ []) (Ok tt) l
  over : ReadFrames id l (Did act.Ended ∷ []) (Err (ending.Closed PeerEnd))
      (connection_seen (with_phase l.state Down) l.unread)
  read_lost : ReadFrames id l (Failed (LinkPart 0) ∷ []) (Err ending.LinkFault) l
  read_memory : ReadFrames id l [] (Err ending.OutOfMemory) l

-- one look at the clock
pub data ReadClock (l : ConnectionSeen) : List Note → Result ⊤ Ending → ConnectionSeen → Type 0 where
  now : (t : ℕ) → ReadClock l (Did (act.Now t) ∷ []) (Ok tt) (connection_seen (with_reading l.state t) l.unread)
  now_memory : ReadClock l [] (Err ending.OutOfMemory) l

-- the expected number is kept where it is another than the kept one
pub data StoreExpected (l : ConnectionSeen) : List Note → Result ⊤ Ending → ConnectionSeen → Type 0 where
  same : l.state.stored_expected ≡ l.state.expected → StoreExpected l [] (Ok tt) l
  kept : l.state.stored_expected ≢ l.state.expected →
      StoreExpected l (Did (act.Kept (Expect l.state.expected)) ∷ []) (Ok tt)
      (connection_seen (with_stored_expected l.state) l.unread)
  expect_lost : l.state.stored_expected ≢ l.state.expected →
      StoreExpected l (Did (act.KeepLost (Expect l.state.expected)) ∷ Failed StorePart ∷ []) (Err ending.StoreFault) l
  expect_memory : l.state.stored_expected ≢ l.state.expected → StoreExpected l [] (Err ending.OutOfMemory) l

abbrev pub down : ConnectionSeen → ConnectionSeen
down l = connection_seen (with_phase l.state Down) l.unread
