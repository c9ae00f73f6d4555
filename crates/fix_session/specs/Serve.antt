-- One connection, whatever a stop left of the session.
use Rattle.std.specs.Prelude.{◌≡◌, ◌≢◌, ℕ, List, [], ◌++◌, Option, Some, None, Result, Ok, Err, ⊤}
use Rattle.fix_base.specs.declared.entry.Stored.{Stored}
use Rattle.fix_base.specs.Trace.{Faults}
use Rattle.fix_outside.specs.declared.outside.LoadFault.{LoadFault}
use Rattle.fix_outside.specs.Calls.{Call}
use Rattle.fix_machine.specs.declared.state.Phase.{Phase}
use Rattle.fix_machine.specs.declared.state.Phase.TheVariants.{Down}
use Rattle.fix_stage.specs.Causes.{Blame, HasRisen}
use Rattle.fix_session.specs.Stops.{run_blame, begin_blame, load_blame, IsDownAfter}
use Rattle.fix_session.specs.Session.{SessionSeen, Reopens, BeginsTo, RunsTo}
use Rattle.fix_session.specs.declared.stop.StopCause.{StopCause}
use Rattle.fix_session.specs.declared.stop.RunEnd.{RunEnd}
use Rattle.fix_session.specs.declared.stop.RunEnd.TheVariants as run
use Rattle.fix_session.specs.declared.stop.BeginFault.{BeginFault}
use Rattle.fix_session.specs.declared.stop.BeginFault.TheVariants as begins
use Rattle.fix_session.specs.declared.serving.Served.{Served}
use Rattle.fix_session.specs.declared.serving.Served.TheVariants as served

-- a session that is stopped is opened again
pub data Readies (old : SessionSeen) : List Call → Result ⊤ LoadFault → SessionSeen → Type 0 where
  is_ready : old.stopped ≡ None → Readies old [] (Ok tt) old
  reopens : {calls : List Call} {r : Result ⊤ LoadFault} {to : SessionSeen} (loaded : Result Stored LoadFault)
      → old.stopped ≢ None → Reopens old loaded calls r to → Readies old calls r to

-- a connection is begun, and its turns are made
pub data BeginsAndRuns (turns : ℕ) (old : SessionSeen) : List Call → Served → SessionSeen → Type 0 where
  begins_and_runs : {first more : List Call} {mid to : SessionSeen} (answer : RunEnd) → BeginsTo old first (Ok tt) mid
      → RunsTo turns mid more answer to → BeginsAndRuns turns old (first ++ more) (served.Ran answer) to
  begins_not : {calls : List Call} {to : SessionSeen} (fault : BeginFault) → BeginsTo old calls (Err fault) to
      → BeginsAndRuns turns old calls (served.BeginFault fault) to

pub data ServesTo (turns : ℕ) (old : SessionSeen) : List Call → Served → SessionSeen → Type 0 where
  serves : {first more : List Call} {mid to : SessionSeen} {answer : Served} → Readies old first (Ok tt) mid
      → BeginsAndRuns turns mid more answer to → ServesTo turns old (first ++ more) answer to
  not_ready : {calls : List Call} {to : SessionSeen} (fault : LoadFault) → Readies old calls (Err fault) to
      → ServesTo turns old calls (served.ReopenFault fault) to

abbrev pub served_blame : Served → Blame
served_blame (served.Ran answer) = run_blame answer
served_blame (served.ReopenFault fault) = load_blame fault
served_blame (served.BeginFault fault) = begin_blame fault

-- a fault of a part is answered only where that part's count rose
abbrev pub ServedHasCause : Served → Faults → Faults → Type 0
ServedHasCause answer = HasRisen (served_blame answer)

-- the phase after it: the session goes on only where all turns were made
abbrev pub IsServedDown : Served → Phase → Type 0
IsServedDown (served.Ran answer) new = IsDownAfter answer Down new
IsServedDown (served.ReopenFault fault) new = new ≡ Down
IsServedDown (served.BeginFault fault) new = new ≡ Down

-- it doesn't answer that the session was stopped before
abbrev pub IsAnew : Served → Type 0
IsAnew (served.Ran answer) = (why : StopCause) → answer ≢ run.Stopped why
IsAnew (served.ReopenFault fault) = ⊤
IsAnew (served.BeginFault fault) = (why : StopCause) → fault ≢ begins.Stopped why
