-- A session is in step with what is outside of it, from its first call on, and keeps up with its counterparty.
use Rattle.std.specs.Prelude.{◌≡◌, ℕ, List, [], ◌∷◌, ◌++◌, Option, Some, IfSome}
use Rattle.fix_base.specs.Lists.{IsPrefixOf}
use Rattle.fix_base.specs.declared.identity.Identity.{Identity}
use Rattle.fix_base.specs.Session.{mirrored}
use Rattle.fix_base.specs.declared.act.Act.{Act}
use Rattle.fix_base.specs.declared.act.Act.TheVariants as act
use Rattle.fix_base.specs.End.{End}
use Rattle.fix_base.specs.Payload.{IsPersistent}
use Rattle.fix_base.specs.Wrote.{Wrote}
use Rattle.fix_base.specs.EndStep.{EndState, EndStep, EndRun}
use Rattle.fix_base.specs.Agrees.{Agrees}
use Rattle.fix_base.specs.Reader.{bytes_read, ReaderKeepsUp}
use Rattle.fix_base.specs.World.{IsPlainRecord}
use Rattle.fix_base.specs.Trace.{OutsideSeen, Stores}
use Rattle.fix_engine.specs.State.{Down}
use Rattle.fix_engine.specs.Reading.{ConnectionSeen}
use Rattle.fix_engine.specs.declared.stop.RunEnd.{RunEnd}
use Rattle.fix_engine.specs.Run.{SessionSeen}
use Rattle.fix_engine.specs.Stated.{CanNotFail}
use Rattle.fix_engine.specs.Lawful.{HasNumbers, IsCertain, IsStoredOrInDoubt, MatchesConnected, After}

-- the end is in step with a session: on a connection, or between two of them
pub data Matches (id : Identity) (l : ConnectionSeen) (e : EndState) : Type 0 where
  connected : MatchesConnected id l e → Matches id l e
  down : l.state.phase ≡ Down → IsCertain l.state e → Matches id l e

-- where the tape is told it is these acts
abbrev pub IsTape : OutsideSeen → List Act → Type 0
IsTape w acts = IfSome w.tape (λ tape. tape ≡ acts)

-- where the stored end is told it is this one
abbrev pub IsStored : OutsideSeen → End → Type 0
IsStored w end = (held : End) → w.Holds held → held ≡ end

-- a session is in step with what is outside of it: since the end was `start`, and the tape had the acts
-- `before`, a lawful run led to an end that is in step with the session. The tape has the acts of the run
-- after those, this end is stored, and the store is open with the session's entries
pub record IsInStep (start : EndState) (before : List Act) (w : OutsideSeen) (session : SessionSeen) : Type 0 where
  pub acts : List Act
  pub to : EndState
  pub run : EndRun session.identity start acts to
  pub beside : Matches session.identity session.connection to
  pub tape : IsTape w (before ++ acts)
  pub stored : IsStored w to.end
  pub opens : w.open_at ≡ Some session.connection.state.last

-- the same since some start: the store is open with the session's entries, and that there is such a start
-- can't fail
pub record IsInStepSinceSome (w : OutsideSeen) (session : SessionSeen) : Type 0 where
  pub opens : w.open_at ≡ Some session.connection.state.last
  pub stands : CanNotFail ((start : EndState) × (before : List Act) × IsInStep start before w session)

-- What is left where a session stopped, or the process did after one of its calls: since the end was `start`,
-- and the tape had the acts `before`, a lawful run led to an end with the session's numbers. The tape has the
-- acts of the run after those, and what is stored is this end, with or without the record that is in doubt.
pub record CanRestart (start : EndState) (before : List Act) (w : OutsideSeen) (session : SessionSeen) : Type 0 where
  pub acts : List Act
  pub to : EndState
  pub run : EndRun session.identity start acts to
  pub numbers : HasNumbers session.connection.state to
  pub tape : IsTape w (before ++ acts)
  pub held : (e : End) → w.Holds e → IsStoredOrInDoubt to.doubt to.end (Some e)

-- an act of a run: no connection is opened, no store is reset, what is kept may be sent again, and the process goes
-- on
abbrev pub IsOfRun : Act → Type 0
IsOfRun act.Opened = ⊥
IsOfRun (act.Now t) = Unit {0}
IsOfRun (act.Read b) = Unit {0}
IsOfRun act.Idle = Unit {0}
IsOfRun act.Ended = Unit {0}
IsOfRun (act.Wrote b) = Unit {0}
IsOfRun (act.Kept r) = IsPlainRecord r
IsOfRun (act.KeepLost r) = IsPlainRecord r
IsOfRun (act.Handed n marked body) = Unit {0}
IsOfRun (act.HandLost n marked body) = Unit {0}
IsOfRun (act.Withheld k) = Unit {0}
IsOfRun (act.Allowed k) = Unit {0}
IsOfRun act.Cut = Unit {0}
IsOfRun act.Stop = ⊥

abbrev pub AreOfRun : List Act → Type 0
AreOfRun [] = Unit {0}
AreOfRun (x ∷ acts) = IsOfRun x × AreOfRun acts

-- the same from the opening of the connection on, which is open still
pub record IsConnected (start : EndState) (before : List Act) (w : OutsideSeen) (session : SessionSeen) : Type 0 where
  pub opened : EndState
  pub opens : EndStep session.identity start act.Opened opened
  pub acts : List Act
  pub ran : AreOfRun acts
  pub to : EndState
  pub run : EndRun session.identity opened acts to
  pub fits : MatchesConnected session.identity session.connection to
  pub tape : IsTape w (before ++ act.Opened ∷ acts)
  pub stored : IsStored w to.end
  pub store_open : w.open_at ≡ Some session.connection.state.last
  pub store : (held : Option End) → Stores acts (Some opened.end) held → held ≡ Some to.end

-- what these acts read on a connection is a front of what a counterparty wrote that keeps its messages to be sent
-- again: `f0` is the counterparty at its opening, when the end agreed with it, and `f1` the counterparty now
pub record ReadsFrom (id : Identity) (start : EndState) (acts : List Act) (f0 f1 : End) : Type 0 where
  pub wrote : List ℕ
  pub persistent : IsPersistent f1
  pub writes : Wrote (mirrored id) f0 f1 wrote
  pub front : IsPrefixOf (bytes_read acts) wrote
  pub stored : Agrees start.end.stored start.handled f0
  pub running : Agrees start.expected start.handled f0

-- all that these acts wrote
abbrev pub bytes_written : List Act → List ℕ
bytes_written [] = []
bytes_written (act.Wrote b ∷ acts) = b ++ bytes_written acts
bytes_written (act.Read b ∷ acts) = bytes_written acts
bytes_written (act.Opened ∷ acts) = bytes_written acts
bytes_written (act.Now t ∷ acts) = bytes_written acts
bytes_written (act.Idle ∷ acts) = bytes_written acts
bytes_written (act.Ended ∷ acts) = bytes_written acts
bytes_written (act.Kept r ∷ acts) = bytes_written acts
bytes_written (act.KeepLost r ∷ acts) = bytes_written acts
bytes_written (act.Handed n marked body ∷ acts) = bytes_written acts
bytes_written (act.HandLost n marked body ∷ acts) = bytes_written acts
bytes_written (act.Withheld k ∷ acts) = bytes_written acts
bytes_written (act.Allowed k ∷ acts) = bytes_written acts
bytes_written (act.Cut ∷ acts) = bytes_written acts
bytes_written (act.Stop ∷ acts) = bytes_written acts

-- these acts on a connection led to an end after this answer. A store that held the end at the opening, and
-- did the acts, holds this end. What they wrote may be written between the opening and now, all messages are
-- still kept to be sent again, and the end keeps up with its counterparty: what was handed over, each number
-- once, are the first messages that the counterparty stored, and each message that the counterparty had
-- before the connection came marked
pub record HasServed (id : Identity) (answer : RunEnd) (connection_seen : ConnectionSeen) (start opened : EndState)
    (acts : List Act) : Type 0 where
  pub to : EndState
  pub run : EndRun id opened acts to
  pub behind : After id answer connection_seen to
  pub store : (held : Option End) → Stores acts (Some opened.end) held → IsStoredOrInDoubt to.doubt to.end held
  pub ran : AreOfRun acts
  pub wrote : Wrote id start.end to.end (bytes_written acts)
  pub persistent : IsPersistent start.end → IsPersistent to.end
  pub keeps_up : (f0 f1 : End) → ReadsFrom id start acts f0 f1 → ReaderKeepsUp f0 f1 acts to
