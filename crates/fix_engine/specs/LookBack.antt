-- A run by looking back: over the frames that were answered on its connection, and over its acts.
use Rattle.std.specs.Prelude.{◌≡◌, ◌+◌, ◌==◌, if◌then◌else◌, ◌∷◌, ◌++◌, ℕ, List, [], Option, length, min, true}
use Rattle.std.specs.Prelude.{false, codes, Ok, Err, ⊤}
use Rattle.fix_base.specs.declared.identity.Identity.{Identity}
use Rattle.fix_base.specs.declared.act.Act.{Act}
use Rattle.fix_base.specs.declared.act.Act.TheVariants as act
use Rattle.fix_base.specs.declared.entry.Record.TheVariants.{Push, Expect, Many, Withhold, Reset, ResetAsk, Confirm}
use Rattle.fix_base.specs.Lists.{Among}
use Rattle.fix_base.specs.Payload.{LAST_TIME}
use Rattle.fix_base.specs.Reader.{bytes_read}
use Rattle.fix_base.specs.Stream.{UnreadBytes, Item, HasNoItem, TakesAll, frames}
use Rattle.fix_base.specs.Trace.{Note, Did, Failed, Asked, Part, StorePart, acts_of}
use Rattle.fix_engine.specs.State.{State, Phase, AwaitLogon, Up, Ending, PeerEnd, LoggedOut, Refused, NotLogon}
use Rattle.fix_engine.specs.declared.stop.RunEnd.{RunEnd}
use Rattle.fix_engine.specs.declared.stop.RunEnd.TheVariants as run
use Rattle.fix_engine.specs.Inbound.{InboundSeen, IsInbound}
use Rattle.fix_engine.specs.Answer.{AnswerFrame, names, is_numbered, number_or_0}
use Rattle.fix_engine.specs.Reading.{ConnectionSeen}
use Rattle.fix_fields.specs.Drafted.{DraftText}
use Rattle.fix_engine.specs.declared.stop.SendFault.{SendFault}
use Rattle.fix_engine.specs.Drafted.{Drafting}

-- the last outbound number, which each kept entry raises
abbrev pub last_sent : ℕ → List Act → ℕ
last_sent n [] = n
last_sent n (act.Kept (Push entry) ∷ acts) = last_sent (n + 1) acts
last_sent n (act.Kept (Expect m) ∷ acts) = last_sent n acts
last_sent n (act.Kept (Many pushes m) ∷ acts) = last_sent (n + length pushes) acts
last_sent n (act.Kept (Withhold m) ∷ acts) = last_sent n acts
last_sent n (act.Kept (Reset t) ∷ acts) = last_sent 0 acts
last_sent n (act.Kept (ResetAsk t) ∷ acts) = last_sent 0 acts
last_sent n (act.Kept Confirm ∷ acts) = last_sent n acts
last_sent n (act.Opened ∷ acts) = last_sent n acts
last_sent n (act.Now t ∷ acts) = last_sent n acts
last_sent n (act.Read b ∷ acts) = last_sent n acts
last_sent n (act.Idle ∷ acts) = last_sent n acts
last_sent n (act.Ended ∷ acts) = last_sent n acts
last_sent n (act.Wrote b ∷ acts) = last_sent n acts
last_sent n (act.KeepLost r ∷ acts) = last_sent n acts
last_sent n (act.Handed number marked body ∷ acts) = last_sent n acts
last_sent n (act.HandLost number marked body ∷ acts) = last_sent n acts
last_sent n (act.Withheld k ∷ acts) = last_sent n acts
last_sent n (act.Allowed k ∷ acts) = last_sent n acts
last_sent n (act.Cut ∷ acts) = last_sent n acts
last_sent n (act.Stop ∷ acts) = last_sent n acts

-- the expected number that was kept last
abbrev pub last_kept : ℕ → List Act → ℕ
last_kept n [] = n
last_kept n (act.Kept (Push entry) ∷ acts) = last_kept n acts
last_kept n (act.Kept (Expect m) ∷ acts) = last_kept m acts
last_kept n (act.Kept (Many pushes m) ∷ acts) = last_kept (if m == 0 then n else m) acts
last_kept n (act.Kept (Withhold m) ∷ acts) = last_kept n acts
last_kept n (act.Kept (Reset t) ∷ acts) = last_kept 1 acts
last_kept n (act.Kept (ResetAsk t) ∷ acts) = last_kept 1 acts
last_kept n (act.Kept Confirm ∷ acts) = last_kept n acts
last_kept n (act.Opened ∷ acts) = last_kept n acts
last_kept n (act.Now t ∷ acts) = last_kept n acts
last_kept n (act.Read b ∷ acts) = last_kept n acts
last_kept n (act.Idle ∷ acts) = last_kept n acts
last_kept n (act.Ended ∷ acts) = last_kept n acts
last_kept n (act.Wrote b ∷ acts) = last_kept n acts
last_kept n (act.KeepLost r ∷ acts) = last_kept n acts
last_kept n (act.Handed number marked body ∷ acts) = last_kept n acts
last_kept n (act.HandLost number marked body ∷ acts) = last_kept n acts
last_kept n (act.Withheld k ∷ acts) = last_kept n acts
last_kept n (act.Allowed k ∷ acts) = last_kept n acts
last_kept n (act.Cut ∷ acts) = last_kept n acts
last_kept n (act.Stop ∷ acts) = last_kept n acts

-- the last reading of the clock; one beyond the end of 2099 counts as that
abbrev pub last_reading : ℕ → List Act → ℕ
last_reading t [] = t
last_reading t (act.Now u ∷ acts) = last_reading (min u LAST_TIME) acts
last_reading t (act.Kept r ∷ acts) = last_reading t acts
last_reading t (act.Opened ∷ acts) = last_reading t acts
last_reading t (act.Read b ∷ acts) = last_reading t acts
last_reading t (act.Idle ∷ acts) = last_reading t acts
last_reading t (act.Ended ∷ acts) = last_reading t acts
last_reading t (act.Wrote b ∷ acts) = last_reading t acts
last_reading t (act.KeepLost r ∷ acts) = last_reading t acts
last_reading t (act.Handed number marked body ∷ acts) = last_reading t acts
last_reading t (act.HandLost number marked body ∷ acts) = last_reading t acts
last_reading t (act.Withheld k ∷ acts) = last_reading t acts
last_reading t (act.Allowed k ∷ acts) = last_reading t acts
last_reading t (act.Cut ∷ acts) = last_reading t acts
last_reading t (act.Stop ∷ acts) = last_reading t acts

-- a connection is up once a frame was answered on it: the first is a Logon
abbrev pub phase_behind : List (List ℕ) → Phase
phase_behind [] = AwaitLogon
phase_behind (frame ∷ answered) = Up

-- the state of a connection that began with the first one, once these frames were answered on it and these
-- acts done: each answered frame is counted
abbrev pub state_at : State → List (List ℕ) → List Act → State
state_at start answered acts = record {
  phase = phase_behind answered;
  expected = start.expected + length answered;
  stored_expected = last_kept start.stored_expected acts;
  last = last_sent start.last acts;
  reading = last_reading start.reading acts;
}

-- these are the frames of the stream up to this place
pub record AreFramesTo (stream : List ℕ) (answered : List (List ℕ)) (place : UnreadBytes) : Type 0 where
  pub items : List Item
  pub takes : TakesAll (record { may_mark = true; bytes = stream }) items place
  pub frames_are : answered ≡ frames items

-- the frame is the next one of the bytes that were read on the connection
pub record IsNext (answered : List (List ℕ)) (acts : List Act) (frame : List ℕ) : Type 0 where
  pub behind : UnreadBytes
  pub stands : AreFramesTo (bytes_read acts) (answered ++ frame ∷ []) behind

-- no frame is left: each that stands whole in the bytes that were read is answered
pub record AreAll (answered : List (List ℕ)) (acts : List Act) (place : UnreadBytes) : Type 0 where
  pub stands : AreFramesTo (bytes_read acts) answered place
  pub end : HasNoItem place

-- the state and the place in the stream are those found by looking back, and no frame is left
pub record StandsAt (start : State) (answered : List (List ℕ)) (acts : List Act) (l : ConnectionSeen) : Type 0 where
  pub state : l.state ≡ state_at start answered acts
  pub all : AreAll answered acts l.unread

-- what comes of a call that answers no frame
pub data Calls (start : State) (answered : List (List ℕ)) (acts : List Act) : Note → Type 0 where
  reads : (b : List ℕ) → Calls start answered acts (Did (act.Read b))
  idles : Calls start answered acts (Did act.Idle)
  is_over : Calls start answered acts (Did act.Ended)
  -- at a look at the clock each frame that was read is answered
  looks : (t : ℕ) (place : UnreadBytes) → AreAll answered acts place → Calls start answered acts (Did (act.Now t))
  keeps : Calls start answered acts (Did (act.Kept (Expect (start.expected + length answered))))
  loses : Calls start answered acts (Did (act.KeepLost (Expect (start.expected + length answered))))
  cuts : Calls start answered acts (Did act.Cut)
  fails : (part : Part) → Calls start answered acts (Failed part)
  asks : (draft : Option (List ℕ)) → Calls start answered acts (Asked draft)

-- what comes after the frame that ended the run, where this number is expected
pub data Closes (expected : ℕ) : List Note → Type 0 where
  nothing_more : Closes expected []
  keeps_it : {more : List Note} → Closes expected more → Closes expected (Did (act.Kept (Expect expected)) ∷ more)
  loses_it : {more : List Note} → Closes expected more
      → Closes expected (Did (act.KeepLost (Expect expected)) ∷ Failed StorePart ∷ more)
  cuts_off : Closes expected (Did act.Cut ∷ [])

-- The notes go on from where these frames were answered and these acts done, up to where the last ones were
-- answered: calls that answer no frame, frames, and drafts. Each frame is the next one of the bytes read. It
-- is answered, and a draft is sent, as the state is that is found by looking back.
pub data Recounts (id : Identity) (start : State) : List (List ℕ) → List Act → List Note → List (List ℕ) → Type 0 where
  done : {answered : List (List ℕ)} {acts : List Act} → Recounts id start answered acts [] answered
  calls : {answered to : List (List ℕ)} {acts : List Act} {note : Note} {more : List Note}
      → Calls start answered acts note → Recounts id start answered (acts ++ acts_of (note ∷ [])) more to
      → Recounts id start answered acts (note ∷ more) to
  answers : {answered to : List (List ℕ)} {acts : List Act} {first more : List Note} (frame : List ℕ)
      → IsNext answered acts frame
      → AnswerFrame id (state_at start answered acts) frame first (Ok tt)
      (state_at start (answered ++ frame ∷ []) (acts ++ acts_of first))
      → Recounts id start (answered ++ frame ∷ []) (acts ++ acts_of first) more to
      → Recounts id start answered acts (first ++ more) to
  sends : {answered to : List (List ℕ)} {acts : List Act} {first more : List Note} {n : ℕ} (draft : DraftText)
      → Drafting id draft (state_at start answered acts) first (Ok n)
      (state_at start answered (acts ++ acts_of first)) → Recounts id start answered (acts ++ acts_of first) more to
      → Recounts id start answered acts (first ++ more) to
  sends_not : {answered : List (List ℕ)} {acts : List Act} {first more : List Note} {why : SendFault} {s : State}
      (draft : DraftText) → Drafting id draft (state_at start answered acts) first (Err why) s
      → Closes s.expected more → Recounts id start answered acts (first ++ more) answered
  ends : {answered : List (List ℕ)} {acts : List Act} {first more : List Note} {e : Ending} {s : State}
      (frame : List ℕ) → IsNext answered acts frame
      → AnswerFrame id (state_at start answered acts) frame first (Err e) s → Closes s.expected more
      → Recounts id start answered acts (first ++ more) (answered ++ frame ∷ [])

-- the last of the frames has P
pub record IsLast (P : List ℕ → Type 0) (answered : List (List ℕ)) : Type 0 where
  pub before : List (List ℕ)
  pub frame : List ℕ
  pub are : answered ≡ before ++ frame ∷ []
  pub is : P frame

-- a Logout (5) with this MsgSeqNum (34)
pub record IsLogout (n : ℕ) (frame : List ℕ) : Type 0 where
  pub inbound : InboundSeen
  pub presents : IsInbound frame inbound
  pub type : names inbound.header.type (codes "5") ≡ true
  pub number : is_numbered inbound.header.number n ≡ true

-- no Logon (A); the number is 0 where none is readable
pub record IsNoLogon (n : ℕ) (frame : List ℕ) : Type 0 where
  pub inbound : InboundSeen
  pub presents : IsInbound frame inbound
  pub type : names inbound.header.type (codes "A") ≡ false
  pub number : n ≡ number_or_0 inbound.header.number

-- a message of this number; it is 0 where none is readable
pub record IsOfNumber (n : ℕ) (frame : List ℕ) : Type 0 where
  pub inbound : InboundSeen
  pub presents : IsInbound frame inbound
  pub number : n ≡ number_or_0 inbound.header.number

-- why a connection was closed: the frames that were answered on it, and the acts of the run, show it
abbrev pub IsShown : RunEnd → List (List ℕ) → List Act → Type 0
IsShown (run.Closed PeerEnd) answered acts = Among act.Ended acts
IsShown (run.Closed (LoggedOut n)) answered acts = IsLast (IsLogout n) answered
IsShown (run.Closed (Refused n NotLogon)) answered acts = (frame : List ℕ) × (answered ≡ frame ∷ []) × IsNoLogon n frame
IsShown (run.NotBuilt n) answered acts = IsLast (IsOfNumber n) answered
IsShown run.TurnsSpent answered acts = ⊤
IsShown run.StoreFault answered acts = ⊤
IsShown run.LinkFault answered acts = ⊤
IsShown run.AppFault answered acts = ⊤
IsShown run.NumbersSpent answered acts = ⊤
IsShown run.OutOfMemory answered acts = ⊤
IsShown (run.Stopped cause) answered acts = ⊤

-- The run by looking back over its connection, which began with this state: before the run these frames were
-- answered and these acts done.
pub record LooksBack (id : Identity) (start : State) (answered : List (List ℕ)) (acts : List Act) (answer : RunEnd)
    (to : ConnectionSeen) (notes : List Note) : Type 0 where
  pub frames : List (List ℕ)  -- those answered on the connection by now
  pub recounts : Recounts id start answered acts notes frames
  pub goes_on : answer ≡ run.TurnsSpent → StandsAt start frames (acts ++ acts_of notes) to
  pub shown : IsShown answer frames (acts_of notes)
