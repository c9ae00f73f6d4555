-- What comes of serving one connection, and with which status.
use Rattle.std.specs.Prelude.{◌≡◌, ◌⊎◌, ℕ, List, [], ◌∷◌, ◌++◌, Some, Ok, Err, ⊤}
use Rattle.fix_base.specs.declared.identity.Identity.{Identity}
use Rattle.fix_base.specs.declared.act.Act.{Act}
use Rattle.fix_base.specs.declared.act.Act.TheVariants as act
use Rattle.fix_base.specs.declared.entry.Stored.{Stored}
use Rattle.fix_base.specs.End.{End}
use Rattle.fix_base.specs.EndStep.{Acceptor, EndState, EndStep, EndRun}
use Rattle.fix_base.specs.Trace.{Note, Did, Rises, OutsideSeen}
use Rattle.fix_engine.specs.declared.state.Why.TheVariants.{PeerEnd, LoggedOut, Refused}
use Rattle.fix_engine.specs.declared.stop.RunEnd.{RunEnd}
use Rattle.fix_engine.specs.declared.stop.RunEnd.TheVariants as run
use Rattle.fix_engine.specs.declared.stop.BeginFault.{BeginFault}
use Rattle.fix_outside.specs.declared.outside.LoadFault.{LoadFault}
use Rattle.fix_outside.specs.declared.outside.LoadFault.TheVariants as load
use Rattle.fix_outside.specs.Outside.{IsStoredOf, IsLoaded, LoadAnswers, loads}
use Rattle.fix_engine.specs.Reading.{ConnectionSeen}
use Rattle.fix_engine.specs.Lawful.{IsStoredOrInDoubt}
use Rattle.fix_engine.specs.InStep.{HasServed}
use Rattle.fix_engine.specs.Restart.{StartsAt, NumbersTell}
use Rattle.fix_engine.specs.Turn.{TurnSeen}
use Rattle.fix_engine.specs.Run.{SessionSeen, turn_of, opened_session, BeginsTo, RunsTo}

-- the status for how a run ended: 0 only where the counterparty's Logout was answered
abbrev pub status_of : RunEnd → ℕ
status_of (run.Closed (LoggedOut n)) = 0
status_of (run.Closed PeerEnd) = 1
status_of (run.Closed (Refused n cause)) = 1
status_of run.StoreFault = 5
status_of run.LinkFault = 6
status_of run.AppFault = 7
status_of run.TurnsSpent = 8
status_of run.OutOfMemory = 9
status_of (run.NotBuilt n) = 10
status_of run.NumbersSpent = 11
-- a session that was just opened isn't stopped before
status_of (run.Stopped c) = 9

-- the status where the store wasn't opened
abbrev pub load_status : LoadFault → ℕ
load_status load.Failed = 5
load_status (load.Damaged place) = 5
load_status load.OutOfMemory = 9

-- these are the numbers of each end that is told
abbrev pub AreNumbersOf : (End → Type 0) → Stored → Type 0
AreNumbersOf holds stored = (e : End) → holds e → IsStoredOf stored e

-- what comes of serving one connection over an outside that was seen so, in at most so many turns
pub data Served (id : Identity) (turns : ℕ) (w : OutsideSeen) : ℕ → List Note → Type 0 where
  -- memory for the session was refused
  not_made : Served id turns w 9 []
  not_opened : (fault : LoadFault) → LoadAnswers (Err fault) w
      → Served id turns w (load_status fault) (loads {T = Stored} (Err fault))
  not_begun : {to : SessionSeen} {e : BeginFault} {notes : List Note} (stored : Stored) → IsLoaded stored w
      → BeginsTo {T = ⊤} (opened_session id stored) (Err e) to notes → Served id turns w 9 (Did act.Stop ∷ notes)
  ran : {x : ⊤} {at : SessionSeen} {to : TurnSeen} {answer : RunEnd} {first more : List Note} (stored : Stored)
      → IsLoaded stored w → BeginsTo (opened_session id stored) (Ok x) at first
      → RunsTo id turns (turn_of at) answer to more
      → Served id turns w (status_of answer) (Did act.Stop ∷ first ++ more)

-- an end that a store tells is this one, with or without the record of it that is in doubt
abbrev pub HoldsEnd : (End → Type 0) → EndState → Type 0
HoldsEnd holds e = (held : End) → holds held → IsStoredOrInDoubt e.doubt e.end (Some held)

-- a store tells no other ends than it told
abbrev pub HoldsStill : (End → Type 0) → (End → Type 0) → Type 0
HoldsStill was holds = (start : EndState) → HoldsEnd was start → HoldsEnd holds start

-- From this end on the process started again, and served a connection lawfully: what was written on it may be
-- written, what was handed over is what the counterparty sent, in order and none left out, and, where it is
-- told which end the store held, the end that this led to is stored.
pub record IsServedFrom (id : Identity) (was holds : End
    → Type 0) (answer : RunEnd) (to : ConnectionSeen) (t : ℕ) (acts : List Act) (start : EndState)
    (told : Type 0) : Type 0 where
  pub again : EndState
  pub restarts : EndRun id start (act.Stop ∷ act.Now t ∷ []) again
  pub at : EndState
  pub opens : EndStep id again act.Opened at
  pub served : HasServed id answer to again at acts
  pub held : told → HoldsEnd was start → HoldsEnd holds served.to

-- the same by the acts alone, and what is stored then: from whatever end there was with the numbers that the store
-- gave, in doubt or not, and from the end that the store told
pub data ServedLawfully (id : Identity) (was holds : End → Type 0) : ℕ → List Act → Type 0 where
  not_started : HoldsStill was holds → ServedLawfully id was holds 9 []
  not_loaded : (fault : LoadFault) → HoldsStill was holds → ServedLawfully id was holds (load_status fault) []
  only_loaded : HoldsStill was holds → ServedLawfully id was holds 9 (act.Stop ∷ [])
  not_connected : (t : ℕ) → HoldsStill was holds → ServedLawfully id was holds 9 (act.Stop ∷ act.Now t ∷ [])
  served : {answer : RunEnd} {to : ConnectionSeen} {acts : List Act} (t : ℕ) (stored : Stored)
      → AreNumbersOf was stored
      → ((start : EndState) → StartsAt stored start
      → IsServedFrom id was holds answer to t acts start (NumbersTell start))
      → ((start : EndState) (e : End) → was e → start.role ≡ Acceptor
      → IsStoredOrInDoubt start.doubt start.end (Some e) → IsServedFrom id was holds answer to t acts start ⊤)
      → ServedLawfully id was holds (status_of answer) (act.Stop ∷ act.Now t ∷ act.Opened ∷ acts)

-- the file isn't a store's. This is said where the store tells its file, and of a store that tells none
-- nothing is said
abbrev pub IsBroken : OutsideSeen → Type 0
IsBroken w = w.Tells → (place : ℕ) × w.Breaks place

-- a part is blamed only where its count of faults rose, or the store where its file, if it is told, is none
pub record StatusHasCause (status : ℕ) (old new : OutsideSeen) : Type 0 where
  pub store : status ≡ 5 → Rises 1 old.faults.store new.faults.store ⊎ IsBroken old
  pub link : status ≡ 6 → Rises 1 old.faults.link new.faults.link
  pub app : status ≡ 7 → Rises 1 old.faults.app new.faults.app
