-- What the calls of a session answer, and whether it is stopped then. Each answer of `run_turns`, on a session that
-- wasn't stopped before:
--
--   answer        phase     stopped  Cut is noted  store is open  number kept  count that rose
--   TurnsSpent    not Down  no       no            yes            yes          -
--   Closed        Down      no       yes           yes            yes          -
--   LinkFault     Down      no       yes           yes            yes          link
--   AppFault      Down      yes      yes           yes            yes          application
--   NumbersSpent  Down      no       yes           yes            not said     -
--   StoreFault    Down      yes      no            no             not said     store
--   OutOfMemory   Down      yes      no            yes            not said     -
use Rattle.std.specs.Prelude.{◌≡◌, ◌≢◌, ℕ, Option, Some, None, Result, Ok, Err, ⊤}
use Rattle.fix_base.specs.Trace.{Faults}
use Rattle.fix_machine.specs.declared.state.Phase.{Phase}
use Rattle.fix_machine.specs.declared.state.Phase.TheVariants.{Down}
use Rattle.fix_outside.specs.declared.outside.LoadFault.{LoadFault}
use Rattle.fix_outside.specs.declared.outside.LoadFault.TheVariants as load
use Rattle.fix_stage.specs.declared.fault.StageFault.{StageFault}
use Rattle.fix_stage.specs.declared.fault.StageFault.TheVariants as stage
use Rattle.fix_stage.specs.Causes.{Blame, NoPart, TheStore, TheLink, TheApp, HasRisen}
use Rattle.fix_steps.specs.declared.ending.Ending.{Ending}
use Rattle.fix_steps.specs.declared.ending.Ending.TheVariants as ending
use Rattle.fix_session.specs.declared.stop.StopCause.{StopCause}
use Rattle.fix_session.specs.declared.stop.StopCause.TheVariants as cause
use Rattle.fix_session.specs.declared.stop.RunEnd.{RunEnd}
use Rattle.fix_session.specs.declared.stop.RunEnd.TheVariants as run
use Rattle.fix_session.specs.declared.stop.BeginFault.{BeginFault}
use Rattle.fix_session.specs.declared.stop.BeginFault.TheVariants as begins
use Rattle.fix_session.specs.declared.stop.SendFault.{SendFault}
use Rattle.fix_session.specs.declared.stop.SendFault.TheVariants as send

-- ---- a run

abbrev pub run_end : Result ⊤ Ending → RunEnd
run_end (Ok x) = run.TurnsSpent
run_end (Err (ending.Closed why)) = run.Closed why
run_end (Err ending.StoreFault) = run.StoreFault
run_end (Err ending.LinkFault) = run.LinkFault
run_end (Err ending.AppFault) = run.AppFault
run_end (Err ending.NumbersSpent) = run.NumbersSpent
run_end (Err ending.OutOfMemory) = run.OutOfMemory

-- why the session is stopped after it
abbrev pub run_stop : RunEnd → Option StopCause
run_stop run.TurnsSpent = None
run_stop (run.Closed why) = None
run_stop run.LinkFault = None
run_stop run.NumbersSpent = None
run_stop run.StoreFault = Some cause.StoreFault
run_stop run.AppFault = Some cause.AppFault
run_stop run.OutOfMemory = Some cause.OutOfMemory
run_stop (run.Stopped c) = Some c

abbrev pub run_blame : RunEnd → Blame
run_blame run.TurnsSpent = NoPart
run_blame (run.Closed why) = NoPart
run_blame run.LinkFault = TheLink
run_blame run.NumbersSpent = NoPart
run_blame run.StoreFault = TheStore
run_blame run.AppFault = TheApp
run_blame run.OutOfMemory = NoPart
run_blame (run.Stopped c) = NoPart

-- a fault of a part is answered only where that part's count rose
abbrev pub RunHasCause : RunEnd → Faults → Faults → Type 0
RunHasCause answer = HasRisen (run_blame answer)

-- the phase after it: a session goes on only where all its turns were made
abbrev pub IsDownAfter : RunEnd → Phase → Phase → Type 0
IsDownAfter run.TurnsSpent old new = new ≢ Down
IsDownAfter (run.Closed why) old new = new ≡ Down
IsDownAfter run.StoreFault old new = new ≡ Down
IsDownAfter run.LinkFault old new = new ≡ Down
IsDownAfter run.AppFault old new = new ≡ Down
IsDownAfter run.NumbersSpent old new = new ≡ Down
IsDownAfter run.OutOfMemory old new = new ≡ Down
IsDownAfter (run.Stopped c) old new = new ≡ old

-- ---- a connection that is begun

abbrev pub begin_stop : BeginFault → StopCause
begin_stop (begins.Stopped c) = c
begin_stop begins.OutOfMemory = cause.OutOfMemory
begin_stop begins.StoreFault = cause.StoreFault

abbrev pub begin_blame : BeginFault → Blame
begin_blame (begins.Stopped c) = NoPart
begin_blame begins.OutOfMemory = NoPart
begin_blame begins.StoreFault = TheStore

abbrev pub BeginHasCause : {T : Type 0} → Result T BeginFault → Faults → Faults → Type 0
BeginHasCause (Ok x) old new = ⊤
BeginHasCause (Err fault) old new = HasRisen (begin_blame fault) old new

-- ---- a message that is sent

abbrev pub send_end : ℕ → Result ⊤ StageFault → Result ℕ SendFault
send_end number (Ok x) = Ok number
send_end number (Err stage.NumbersSpent) = Err send.NumbersSpent
send_end number (Err stage.OutOfMemory) = Err send.OutOfMemory
send_end number (Err stage.StoreFault) = Err send.StoreFault
send_end number (Err stage.LinkFault) = Err (send.LinkFault number)

abbrev pub send_stop : {T : Type 0} → Result T SendFault → Option StopCause
send_stop (Ok x) = None
send_stop (Err (send.Stopped c)) = Some c
send_stop (Err send.NumbersSpent) = None
send_stop (Err send.OutOfMemory) = Some cause.OutOfMemory
send_stop (Err send.StoreFault) = Some cause.StoreFault
send_stop (Err (send.LinkFault number)) = None

abbrev pub send_blame : SendFault → Blame
send_blame (send.Stopped c) = NoPart
send_blame send.NumbersSpent = NoPart
send_blame send.OutOfMemory = NoPart
send_blame send.StoreFault = TheStore
send_blame (send.LinkFault number) = TheLink

abbrev pub SendHasCause : {T : Type 0} → Result T SendFault → Faults → Faults → Type 0
SendHasCause (Ok x) old new = ⊤
SendHasCause (Err fault) old new = HasRisen (send_blame fault) old new

-- ---- a store that is opened

-- why the session is stopped where it wasn't: one that was stopped stays so
abbrev pub load_stop : Option StopCause → LoadFault → Option StopCause
load_stop (Some c) fault = Some c
load_stop None load.Failed = Some cause.StoreFault
load_stop None (load.Damaged place) = Some cause.StoreFault
load_stop None load.OutOfMemory = Some cause.OutOfMemory

abbrev pub load_blame : LoadFault → Blame
load_blame load.Failed = TheStore
load_blame (load.Damaged place) = NoPart
load_blame load.OutOfMemory = NoPart

abbrev pub LoadHasCause : {T : Type 0} → Result T LoadFault → Faults → Faults → Type 0
LoadHasCause (Ok x) old new = ⊤
LoadHasCause (Err fault) old new = HasRisen (load_blame fault) old new
