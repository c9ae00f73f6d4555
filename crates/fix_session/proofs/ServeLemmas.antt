-- What comes of serving one connection.
use Rattle.std.proofs.Common.{◌≡◌, ◌≢◌, ℕ, List, ◌++◌, Option, Some, None, Result, Ok, Err, refl, ◌∙◌}
use Rattle.std.specs.Prelude.{⊤, IfNone}
use Rattle.fix_base.specs.Trace.{OutsideSeen}
use Rattle.fix_outside.specs.declared.outside.LoadFault.{LoadFault}
use Rattle.fix_outside.specs.Calls.{Call, HasCalls}
use Rattle.fix_machine.specs.declared.state.Phase.{Phase}
use Rattle.fix_machine.specs.declared.state.Phase.TheVariants.{Down}
use Rattle.fix_stage.specs.Causes.{Blame, HasFailed, Blames}
use Rattle.fix_stage.proofs.CombineLemmas.{Blames-after, has_risen}
use Rattle.fix_steps.specs.declared.ending.Ending.{Ending}
use Rattle.fix_steps.specs.declared.ending.Ending.TheVariants as ending
use Rattle.fix_steps.specs.Causes.{blame_of}
use Rattle.fix_session.specs.Stops.{run_end, run_blame, begin_blame, load_blame, IsDownAfter}
use Rattle.fix_session.specs.Session as session
use Rattle.fix_session.specs.Session.{SessionSeen, BeginsTo, RunsTo}
use Rattle.fix_session.specs.Serve as serve
use Rattle.fix_session.specs.Serve.{Readies, BeginsAndRuns, ServesTo, served_blame, ServedHasCause, IsServedDown, IsAnew}
use Rattle.fix_session.specs.declared.stop.StopCause.{StopCause}
use Rattle.fix_session.specs.declared.stop.RunEnd.{RunEnd}
use Rattle.fix_session.specs.declared.stop.RunEnd.TheVariants as run
use Rattle.fix_session.specs.declared.stop.BeginFault.{BeginFault}
use Rattle.fix_session.specs.declared.stop.BeginFault.TheVariants as begins
use Rattle.fix_session.specs.declared.serving.Served.{Served}
use Rattle.fix_session.specs.declared.serving.Served.TheVariants as served
use Rattle.fix_session.proofs.BeginLemmas.{begun_live, not_begun, not_stopped, begins_unstopped, begins_blames}
use Rattle.fix_session.proofs.CauseLemmas.{Runs-blames}
use Rattle.fix_session.proofs.RestLemmas.{load_failed, run_down}

abbrev phase_of : SessionSeen → Phase
phase_of s = s.work.state.machine.state.phase

-- ---- between the calls

pub if_none : (o : Option StopCause) (P : Type 0) → o ≡ None → IfNone o P → P
if_none None P e h = h
if_none (Some why) P e h = cc

pub none_if : (o : Option StopCause) (P : Type 0) → P → IfNone o P
none_if None P h = h
none_if (Some why) P h = tt

pub some_stops : (o : Option StopCause) (why : StopCause) → o ≡ Some why → o ≢ None
some_stops None why e = λ n. cc
some_stops (Some w) why e = λ n. cc

pub ready_goes_on : (old to : SessionSeen) (calls : List Call) → Readies old calls (Ok tt) to → to.stopped ≡ None
ready_goes_on old to calls (serve.is_ready none) = none
ready_goes_on old to calls (serve.reopens loaded some (session.again stored)) = refl

pub ready_down : (old to : SessionSeen) (calls : List Call) (r : Result ⊤ LoadFault) → phase_of old ≡ Down → Readies old calls r to → phase_of to ≡ Down
ready_down old to calls r down (serve.is_ready none) = down
ready_down old to calls r down (serve.reopens loaded some (session.again stored)) = down
ready_down old to calls r down (serve.reopens loaded some (session.not_again fault)) = down

pub begun_goes_on : (old to : SessionSeen) (calls : List Call) → BeginsTo old calls (Ok tt) to → to.stopped ≡ None
begun_goes_on old to calls (session.begins_to d) = refl

pub begun_phase : (old to : SessionSeen) (calls : List Call) → BeginsTo old calls (Ok tt) to → phase_of to ≢ Down
begun_phase old to calls (session.begins_to {s = s} d) = begun_live _ _ _ _ s d

-- ---- the phase

not_begun_down : (old to : SessionSeen) (calls : List Call) (fault : BeginFault) → phase_of old ≡ Down → BeginsTo old calls (Err fault) to → phase_of to ≡ Down
not_begun_down old to calls fault down session.no_reader = down
not_begun_down old to calls fault down (session.begins_not {s = s} f d) = not_begun _ _ _ _ f s d ∙ down

runs_down : (turns : ℕ) (old to : SessionSeen) (calls : List Call) (answer : RunEnd) → phase_of old ≢ Down → RunsTo turns old calls answer to → IsDownAfter answer Down (phase_of to)
runs_down turns old to calls answer live (session.runs {w = w} r d) = run_down _ _ _ _ w _ r Down live d

part_down : (turns : ℕ) (old to : SessionSeen) (calls : List Call) (answer : Served) → phase_of old ≡ Down → BeginsAndRuns turns old calls answer to → IsServedDown answer (phase_of to)
part_down turns old to calls answer down (serve.begins_and_runs {first = first} {more = more} {mid = mid} end d k) = runs_down turns mid to more end (begun_phase old mid first d) k
part_down turns old to calls answer down (serve.begins_not fault d) = not_begun_down old to calls fault down d

pub served_down : (turns : ℕ) (old to : SessionSeen) (calls : List Call) (answer : Served) → phase_of old ≡ Down → ServesTo turns old calls answer to → IsServedDown answer (phase_of to)
served_down turns old to calls answer down (serve.serves {first = first} {more = more} {mid = mid} d k) = part_down turns mid to more answer (ready_down old mid first (Ok tt) down d) k
served_down turns old to calls answer down (serve.not_ready fault d) = ready_down old to calls (Err fault) down d

-- ---- it was not stopped before

run_anew : (r : Result ⊤ Ending) (why : StopCause) → run_end r ≢ run.Stopped why
run_anew (Ok x) why e = cc
run_anew (Err (ending.Closed w)) why e = cc
run_anew (Err ending.StoreFault) why e = cc
run_anew (Err ending.LinkFault) why e = cc
run_anew (Err ending.AppFault) why e = cc
run_anew (Err ending.NumbersSpent) why e = cc
run_anew (Err ending.OutOfMemory) why e = cc

runs_anew : (turns : ℕ) (old to : SessionSeen) (calls : List Call) (answer : RunEnd) → RunsTo turns old calls answer to → (why : StopCause) → answer ≢ run.Stopped why
runs_anew turns old to calls answer (session.runs r d) why = run_anew r why

begins_anew : (old to : SessionSeen) (calls : List Call) (fault : BeginFault) → BeginsTo old calls (Err fault) to → (why : StopCause) → fault ≢ begins.Stopped why
begins_anew old to calls fault session.no_reader why = λ e. cc
begins_anew old to calls fault (session.begins_not {s = s} f d) why = not_stopped f (begins_unstopped _ _ _ calls (Err f) s d) why

part_anew : (turns : ℕ) (old to : SessionSeen) (calls : List Call) (answer : Served) → BeginsAndRuns turns old calls answer to → IsAnew answer
part_anew turns old to calls answer (serve.begins_and_runs {more = more} {mid = mid} end d k) = runs_anew turns mid to more end k
part_anew turns old to calls answer (serve.begins_not fault d) = begins_anew old to calls fault d

pub served_anew : (turns : ℕ) (old to : SessionSeen) (calls : List Call) (answer : Served) → ServesTo turns old calls answer to → IsAnew answer
served_anew turns old to calls answer (serve.serves {more = more} {mid = mid} d k) = part_anew turns mid to more answer k
served_anew turns old to calls answer (serve.not_ready fault d) = tt

-- ---- causes

failed_after : (b : Blame) (first more : List Call) → HasFailed b more → HasFailed b (first ++ more)
failed_after b first more h = Blames-after (λ (x : Blame). x) (Err b) first more h

run_blames : (r : Result ⊤ Ending) (calls : List Call) → Blames blame_of r calls → HasFailed (run_blame (run_end r)) calls
run_blames (Ok x) calls h = tt
run_blames (Err (ending.Closed w)) calls h = tt
run_blames (Err ending.StoreFault) calls h = h
run_blames (Err ending.LinkFault) calls h = h
run_blames (Err ending.AppFault) calls h = h
run_blames (Err ending.NumbersSpent) calls h = tt
run_blames (Err ending.OutOfMemory) calls h = tt

runs_blame : (turns : ℕ) (old to : SessionSeen) (calls : List Call) (answer : RunEnd) → RunsTo turns old calls answer to → HasFailed (run_blame answer) calls
runs_blame turns old to calls answer (session.runs {w = w} r d) = run_blames r calls (Runs-blames _ _ turns _ calls r w d)

begins_blame : (old to : SessionSeen) (calls : List Call) (fault : BeginFault) → BeginsTo old calls (Err fault) to → HasFailed (begin_blame fault) calls
begins_blame old to calls fault session.no_reader = tt
begins_blame old to calls fault (session.begins_not {s = s} f d) = begins_blames _ _ _ calls (Err f) s d

part_blames : (turns : ℕ) (old to : SessionSeen) (calls : List Call) (answer : Served) → BeginsAndRuns turns old calls answer to → HasFailed (served_blame answer) calls
part_blames turns old to calls answer (serve.begins_and_runs {first = first} {more = more} {mid = mid} end d k) = failed_after (run_blame end) first more (runs_blame turns mid to more end k)
part_blames turns old to calls answer (serve.begins_not fault d) = begins_blame old to calls fault d

ready_blames : (old to : SessionSeen) (calls : List Call) (fault : LoadFault) → Readies old calls (Err fault) to → HasFailed (load_blame fault) calls
ready_blames old to calls fault (serve.reopens loaded some (session.not_again f)) = load_failed f

serves_blame : (turns : ℕ) (old to : SessionSeen) (calls : List Call) (answer : Served) → ServesTo turns old calls answer to → HasFailed (served_blame answer) calls
serves_blame turns old to calls answer (serve.serves {first = first} {more = more} {mid = mid} d k) = failed_after (served_blame answer) first more (part_blames turns mid to more answer k)
serves_blame turns old to calls answer (serve.not_ready fault d) = ready_blames old to calls fault d

pub served_caused : (turns : ℕ) (old to : SessionSeen) (answer : Served) (o n : OutsideSeen) → HasCalls o n (λ calls. ServesTo turns old calls answer to) → ServedHasCause answer o.faults n.faults
served_caused turns old to answer o n h = has_risen (served_blame answer) o.faults n.faults h.0 h.1.faults (serves_blame turns old to h.0 answer h.2)
