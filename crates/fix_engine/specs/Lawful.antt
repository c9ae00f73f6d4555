-- Every run of the engine is a run of a lawful end.
use Rattle.std.specs.Prelude.{◌≡◌, ◌≢◌, ◌⊎◌, ℕ, ◌<◌, ◌≤◌, List, [], length, true, Option, Some, None, Result, Ok, Err}
use Rattle.fix_base.specs.Lists.{Among}
use Rattle.fix_base.specs.declared.identity.Identity.{Identity}
use Rattle.fix_base.specs.Stream.{UnreadBytes, Item, TakesAll, frames}
use Rattle.fix_base.specs.Message.{Message}
use Rattle.fix_base.specs.Shape.{IsFrame}
use Rattle.fix_base.specs.Says.{SaysAll, joined}
use Rattle.fix_base.specs.Logon.{IsResetLogon, Begun}
use Rattle.fix_base.specs.declared.entry.Record.{Record}
use Rattle.fix_base.specs.declared.entry.Record.TheVariants.{Push, Expect}
use Rattle.fix_base.specs.End.{End, folded}
use Rattle.fix_base.specs.declared.act.Act.{Act}
use Rattle.fix_base.specs.Wrote.{WroteWhole}
use Rattle.fix_base.specs.EndStep.{Acceptor, Connection, EndState, EndRun}
use Rattle.fix_base.specs.Trace.{Stores, Note, acts_of}
use Rattle.fix_fields.specs.Drafted.{DraftText, IsDraft}
use Rattle.fix_engine.specs.State.{State, Phase, Down, AwaitLogon, Say}
use Rattle.fix_engine.specs.Answer.{entry_of}
use Rattle.fix_engine.specs.Reading.{ConnectionSeen}
use Rattle.fix_engine.specs.Drafted.{entry_of_draft}
use Rattle.fix_engine.specs.declared.stop.RunEnd.{RunEnd}
use Rattle.fix_engine.specs.declared.stop.RunEnd.TheVariants as run
use Rattle.fix_engine.specs.declared.stop.BeginFault.{BeginFault}
use Rattle.fix_engine.specs.declared.stop.BeginFault.TheVariants as begins
use Rattle.fix_engine.specs.Run.{SessionSeen}

-- the end's numbers are the session's: the running expected number, the one that is kept, and how many
-- entries there are. It is the end of an acceptor
pub record HasNumbers (s : State) (e : EndState) : Type 0 where
  pub expected : e.expected ≡ s.expected
  pub stored : e.end.stored ≡ s.stored_expected
  pub out : length e.end.out ≡ s.last
  pub role : e.role ≡ Acceptor

-- the same, and no record is in doubt
pub record IsCertain (s : State) (e : EndState) : Type 0 where
  pub doubt : e.doubt ≡ None
  pub numbers : HasNumbers s e

-- the bytes are read up to this place, and the frames before it say some messages
pub record IsReadUpTo (bytes : List ℕ) (place : UnreadBytes) : Type 0 where
  pub items : List Item
  pub takes : TakesAll (record { may_mark = true; bytes = bytes }) items place
  pub messages : List Message
  pub says : SaysAll (frames items) messages

-- the bytes are whole frames, and none of them is a Logon with 141=Y
pub record IsPlainly (bytes : List ℕ) : Type 0 where
  pub texts : List (List ℕ)
  pub are : bytes ≡ joined texts
  pub frames : (text : List ℕ) → Among text texts → IsFrame text
  pub plain : (text : List ℕ) → Among text texts → IsResetLogon text → ⊥

-- the first frame of the bytes is there, and is no Logon with 141=Y
abbrev pub BeginsPlainly : List ℕ → Type 0
BeginsPlainly bytes = Begun (λ text. IsResetLogon text → ⊥) bytes

-- in this phase, at this place of the bytes: while a session waits for its Logon no frame may be read yet
pub data IsBegunAt (bytes : List ℕ) (place : UnreadBytes) : Phase → Type 0 where
  plainly : {phase : Phase} → BeginsPlainly bytes → IsBegunAt bytes place phase
  silent : (items : List Item) → TakesAll (record { may_mark = true; bytes = bytes }) items place → frames items
      ≡ [] → IsBegunAt bytes place AwaitLogon

-- the end is in step with a session on this connection: what was read on it is read up to the place that the
-- session is at, and what was written on it is whole messages, the last original of which is that of an
-- entry. None asks for a reset
pub record IsOn (id : Identity) (l : ConnectionSeen) (c : Connection) (e : EndState) : Type 0 where
  pub phase : l.state.phase ≢ Down
  pub settled : IsCertain l.state e
  pub is_open : e.connection ≡ Some c
  pub read : IsReadUpTo c.read l.unread
  pub last : ℕ
  pub kept : last ≤ length e.end.out
  pub whole : WroteWhole id c.opened e.end last c.written
  pub plain : IsPlainly c.written
  pub base : c.base ≤ length e.handled

-- the end is in step with a session on its open connection, where each message that was given is counted, and
-- the first frame that was read, if any, is no Logon with 141=Y
pub record MatchesConnected (id : Identity) (l : ConnectionSeen) (e : EndState) : Type 0 where
  pub connection : Connection
  pub on : IsOn id l connection e
  pub begun : IsBegunAt connection.read l.unread l.state.phase
  pub counted : (n : ℕ) → Among n connection.gave → n < l.state.expected

-- the end is in step with a session that left its connection
pub record MatchesDown (s : State) (e : EndState) : Type 0 where
  pub phase : s.phase ≡ Down
  pub settled : IsCertain s e
  pub closed : e.connection ≡ None

-- the record that a session lost: an entry of what it says or of a draft, or the expected number
pub data IsLost (s : State) : Record → Type 0 where
  entry : (say : Say) → IsLost s (Push (entry_of s say))
  draft : (d : DraftText) → IsDraft d → IsLost s (Push (entry_of_draft s d))
  number : IsLost s (Expect s.expected)

-- the end is that of a session that lost a record: this one is in doubt, and else the numbers are the session's
pub record IsInDoubt (s : State) (e : EndState) : Type 0 where
  pub numbers : HasNumbers s e
  pub record_lost : Record
  pub doubt : e.doubt ≡ Some record_lost
  pub is : IsLost s record_lost
  pub closed : e.connection ≡ None

-- what a store of this end holds: the end, with or without the record that is in doubt
abbrev pub IsStoredOrInDoubt : Option Record → End → Option End → Type 0
IsStoredOrInDoubt None end held = held ≡ Some end
IsStoredOrInDoubt (Some r) end held = (held ≡ Some end) ⊎ (held ≡ Some (folded end r))

-- these acts are a run of a lawful end, to one that has P. A store that held the old end, and did the acts,
-- holds the new one
pub record LawfulRunTo (id : Identity) (e : EndState) (acts : List Act) (P : EndState → Type 0) : Type 0 where
  pub to : EndState
  pub run : EndRun id e acts to
  pub holds : P to
  pub store : (held : Option End) → Stores acts (Some e.end) held → IsStoredOrInDoubt to.doubt to.end held

-- the end after a run that gave this answer
abbrev pub After : Identity → RunEnd → ConnectionSeen → EndState → Type 0
After id run.TurnsSpent to e = MatchesConnected id to e
After id (run.Closed why) to e = MatchesDown to.state e
After id (run.NotBuilt n) to e = MatchesDown to.state e
After id run.LinkFault to e = MatchesDown to.state e
After id run.AppFault to e = MatchesDown to.state e
After id run.NumbersSpent to e = MatchesDown to.state e
After id run.StoreFault to e = IsInDoubt to.state e
After id run.OutOfMemory to e = IsCertain to.state e
After id (run.Stopped cause) to e = ⊥

-- whatever end is in step with a session before its turns, the acts of these are a run of it
abbrev pub IsLawfulRun : Identity → ConnectionSeen → RunEnd → ConnectionSeen → List Note → Type 0
IsLawfulRun id l answer to notes = (e : EndState) → MatchesConnected id l e
    → LawfulRunTo id e (acts_of notes) (After id answer to)

-- the end after the opening of a connection
abbrev pub AfterBegin : {T : Type 0} → Identity → Result T BeginFault → ConnectionSeen → EndState → Type 0
AfterBegin id (Ok x) to e = MatchesConnected id to e
AfterBegin id (Err begins.OutOfMemory) to e = IsCertain to.state e
AfterBegin id (Err (begins.Stopped cause)) to e = ⊥

-- whatever end has a session's numbers, and no doubt, the acts that open its connection are a run of it
abbrev pub IsLawfulBegin : {T : Type 0} → SessionSeen → Result T BeginFault → SessionSeen → List Note → Type 0
IsLawfulBegin old answer new notes = (e : EndState) → IsCertain old.connection.state e
    → LawfulRunTo old.identity e (acts_of notes) (AfterBegin old.identity answer new.connection)
