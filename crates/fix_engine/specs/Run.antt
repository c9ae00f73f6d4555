-- What the calls of a session answer, and when.
use Rattle.std.specs.Prelude.{◌≡◌, ◌≢◌, ℕ, List, [], ◌∷◌, true, Option, Some, None, Result, Ok, Err, ⊤, min}
use Rattle.fix_base.specs.declared.identity.Identity.{Identity}
use Rattle.fix_base.specs.declared.entry.Stored.{Stored}
use Rattle.fix_base.specs.Payload.{LAST_TIME}
use Rattle.fix_base.specs.Stream.{UnreadBytes}
use Rattle.fix_base.specs.declared.act.Act.TheVariants as act
use Rattle.fix_base.specs.Trace.{Faults, Note, Did, Rises}
use Rattle.fix_engine.specs.State.{State, Phase, Down, AwaitLogon, Ending}
use Rattle.fix_engine.specs.declared.stop.RunEnd.{RunEnd}
use Rattle.fix_engine.specs.declared.stop.RunEnd.TheVariants as run
use Rattle.fix_engine.specs.declared.stop.StopCause.{StopCause}
use Rattle.fix_engine.specs.declared.stop.StopCause.TheVariants as cause
use Rattle.fix_engine.specs.declared.stop.BeginFault.{BeginFault}
use Rattle.fix_engine.specs.declared.stop.BeginFault.TheVariants as begins
use Rattle.fix_outside.specs.declared.outside.LoadFault.{LoadFault}
use Rattle.fix_outside.specs.declared.outside.LoadFault.TheVariants as load
use Rattle.fix_outside.specs.Outside.{loads}
use Rattle.fix_engine.specs.declared.pending.PendingDraft.{PendingDraft}
use Rattle.fix_engine.specs.Faults.{run_end, stays_stopped}
use Rattle.fix_engine.specs.Reading.{ConnectionSeen, connection_seen}
use Rattle.fix_engine.specs.Turn.{TurnSeen, turn_seen, RunAndCut, no_draft, pending_reopened}

-- what a session is seen as
pub record SessionSeen : Type 0 where
  pub identity : Identity
  pub connection : ConnectionSeen
  pub pending : PendingDraft
  pub stopped : Option StopCause

-- without its identity, and why it is stopped
abbrev pub turn_of : SessionSeen → TurnSeen
turn_of session = turn_seen session.connection session.pending

-- a session that starts from these numbers
abbrev pub state_of : Stored → State
state_of stored = record {
  phase = Down;
  expected = stored.expected;
  stored_expected = stored.expected;
  last = stored.last;
  reading = 0;
}

-- the first place of a stream
abbrev pub no_bytes : UnreadBytes
no_bytes = record { may_mark = true; bytes = [] }

-- these notes are a run of at most n turns with this answer, and this is after it
pub record RunsTo (id : Identity) (n : ℕ) (d : TurnSeen) (answer : RunEnd) (to : TurnSeen)
    (notes : List Note) : Type 0 where
  pub r : Result ⊤ Ending
  pub answered : answer ≡ run_end r
  pub ran : RunAndCut id n d notes r to

-- a fault of a part is answered only where that part's count rose
abbrev pub RunHasCause : RunEnd → Faults → Faults → Type 0
RunHasCause run.StoreFault old new = Rises 1 old.store new.store
RunHasCause run.LinkFault old new = Rises 1 old.link new.link
RunHasCause run.AppFault old new = Rises 1 old.app new.app
RunHasCause run.TurnsSpent old new = ⊤
RunHasCause (run.Closed why) old new = ⊤
RunHasCause (run.NotBuilt n) old new = ⊤
RunHasCause run.NumbersSpent old new = ⊤
RunHasCause run.OutOfMemory old new = ⊤
RunHasCause (run.Stopped c) old new = ⊤

-- the store is blamed only where its count rose
abbrev pub LoadHasCause : {T : Type 0} → Result T LoadFault → Faults → Faults → Type 0
LoadHasCause (Ok x) old new = ⊤
LoadHasCause (Err load.Failed) old new = Rises 1 old.store new.store
LoadHasCause (Err (load.Damaged place)) old new = ⊤
LoadHasCause (Err load.OutOfMemory) old new = ⊤

-- the phase after an answer: a session goes on only where all its turns were made
abbrev pub IsDownUnlessSpent : RunEnd → Phase → Phase → Type 0
IsDownUnlessSpent run.TurnsSpent old new = new ≢ Down
IsDownUnlessSpent (run.Closed why) old new = new ≡ Down
IsDownUnlessSpent (run.NotBuilt n) old new = new ≡ Down
IsDownUnlessSpent run.StoreFault old new = new ≡ Down
IsDownUnlessSpent run.LinkFault old new = new ≡ Down
IsDownUnlessSpent run.AppFault old new = new ≡ Down
IsDownUnlessSpent run.NumbersSpent old new = new ≡ Down
IsDownUnlessSpent run.OutOfMemory old new = new ≡ Down
IsDownUnlessSpent (run.Stopped c) old new = new ≡ old

-- a session that was just opened over these numbers
abbrev pub opened_session : Identity → Stored → SessionSeen
opened_session id stored = record {
  identity = id;
  connection = connection_seen (state_of stored) no_bytes;
  pending = no_draft;
  stopped = None;
}

-- what comes of opening a session: it has the numbers that the store told, or there is none
pub data OpensTo (id : Identity) : Result SessionSeen LoadFault → Result Stored LoadFault → List Note → Type 0 where
  from_stored : (stored : Stored) → OpensTo id (Ok (opened_session id stored)) (Ok stored) (Did act.Stop ∷ [])
  no_store : (fault : LoadFault) → OpensTo id (Err fault) (Err fault) (loads {T = Stored} (Err fault))

-- a session that goes on from these numbers, with the draft in hand that isn't stored; and one whose store was not
-- opened
abbrev pub reopened_session : SessionSeen → Stored → SessionSeen
reopened_session old stored = record {
  identity = old.identity;
  connection = connection_seen (state_of stored) old.connection.unread;
  pending = pending_reopened old.pending old.connection.state.last stored.last;
  stopped = None;
}

abbrev pub refused_session : SessionSeen → LoadFault → SessionSeen
refused_session old fault = record {
  identity = old.identity;
  connection = old.connection;
  pending = old.pending;
  stopped = stays_stopped old.stopped fault;
}

-- what comes of opening the store of a session again
pub data ReopensTo {T : Type 0} (old : SessionSeen) : Result T LoadFault → Result Stored LoadFault → SessionSeen
    → List Note →
    Type 0 where
  again : {x : T} (stored : Stored) → ReopensTo old (Ok x) (Ok stored) (reopened_session old stored) (Did act.Stop ∷ [])
  refused_again : (fault : LoadFault) → ReopensTo old (Err fault) (Err fault) (refused_session old fault)
      (loads {T = Stored} (Err fault))

-- what comes of opening a connection, with the reading
pub data Opens : Result ℕ BeginFault → List Note → Type 0 where
  opened : (t : ℕ) → Opens (Ok t) (Did (act.Now t) ∷ Did act.Opened ∷ [])
  no_reading : Opens (Err begins.OutOfMemory) []
  not_opened : (t : ℕ) → Opens (Err begins.OutOfMemory) (Did (act.Now t) ∷ [])

-- a session on a new connection, from this reading on
abbrev pub begun : ConnectionSeen → ℕ → ConnectionSeen
begun l t =
    connection_seen (record {
      phase = AwaitLogon;
      expected = l.state.expected;
      stored_expected = l.state.stored_expected;
      last = l.state.last;
      reading = min t LAST_TIME;
    }) no_bytes

-- what a session is after a call that was out of memory
abbrev pub stopped_for_memory : SessionSeen → SessionSeen
stopped_for_memory old = record {
  identity = old.identity;
  connection = old.connection;
  pending = old.pending;
  stopped = Some cause.OutOfMemory;
}

-- what comes of `begin` on a session that goes on: on Ok it waits for a Logon on the new connection, and where it
-- was out of memory it is stopped
pub data BeginsTo {T : Type 0} (old : SessionSeen) : Result T BeginFault → SessionSeen → List Note → Type 0 where
  opened_to : {x : T} (t : ℕ) → BeginsTo old (Ok x)
      (record { identity = old.identity; connection = begun old.connection t; pending = old.pending; stopped = None })
      (Did (act.Now t) ∷ Did act.Opened ∷ [])
  no_memory : BeginsTo old (Err begins.OutOfMemory) (stopped_for_memory old) []
  no_memory_to_open : (t : ℕ) → BeginsTo old (Err begins.OutOfMemory) (stopped_for_memory old) (Did (act.Now t) ∷ [])
