-- What a fault or an answer does. Each answer of `run_turns`, on a session that wasn't stopped before:
--
--   answer        phase     stopped  Cut is noted  store is open  number kept  count that rose
--   TurnsSpent    not Down  no       no            yes            yes          -
--   Closed        Down      no       yes           yes            yes          -
--   NotBuilt      Down      no       yes           yes            yes          -
--   LinkFault     Down      no       yes           yes            yes          link
--   AppFault      Down      yes      yes           yes            yes          application
--   NumbersSpent  Down      no       yes           yes            not said     -
--   StoreFault    Down      yes      no            no             not said     store
--   OutOfMemory   Down      yes      no            yes            not said     -
--
-- The columns: `IsDownUnlessSpent` of Run, `stop_cause`, `is_cut_of`, `open_behind`, `IsSettled` of Turns
-- (with no turn asked for, as it was before), `RunHasCause` of Run. Where noting the Cut or keeping the
-- number is itself refused, the answer is that of the refusal: OutOfMemory or StoreFault. A session that was
-- stopped before answers Stopped, calls nothing and stays as it is.
use Rattle.std.specs.Prelude.{ℕ, Bool, true, false, Option, Some, None, Result, Ok, Err, ⊤}
use Rattle.fix_outside.specs.declared.outside.LoadFault.{LoadFault}
use Rattle.fix_outside.specs.declared.outside.LoadFault.TheVariants as load
use Rattle.fix_engine.specs.State.{State, Ending}
use Rattle.fix_engine.specs.declared.state.Ending.TheVariants as ending
use Rattle.fix_engine.specs.declared.stop.RunEnd.{RunEnd}
use Rattle.fix_engine.specs.declared.stop.RunEnd.TheVariants as run
use Rattle.fix_engine.specs.declared.stop.SendFault.{SendFault}
use Rattle.fix_engine.specs.declared.stop.SendFault.TheVariants as fault
use Rattle.fix_engine.specs.declared.stop.StopCause.{StopCause}
use Rattle.fix_engine.specs.declared.stop.StopCause.TheVariants as cause

-- ---- a turn, and a run of turns

-- whether the expected number is kept after this: also after a close, a message that isn't answered yet, and a
-- fault of the connection or of the application
abbrev pub settles_of : Result ⊤ Ending → Bool
settles_of (Ok x) = true
settles_of (Err (ending.Closed why)) = true
settles_of (Err (ending.NotBuilt n)) = true
settles_of (Err ending.LinkFault) = true
settles_of (Err ending.AppFault) = true
settles_of (Err ending.StoreFault) = false
settles_of (Err ending.NumbersSpent) = false
settles_of (Err ending.OutOfMemory) = false

-- whether Cut is noted after this
abbrev pub is_cut_of : Ending → Bool
is_cut_of (ending.Closed why) = true
is_cut_of (ending.NotBuilt n) = true
is_cut_of ending.LinkFault = true
is_cut_of ending.AppFault = true
is_cut_of ending.NumbersSpent = true
is_cut_of ending.StoreFault = false
is_cut_of ending.OutOfMemory = false

-- how many entries the store has after this, if it is open: one that failed is not
abbrev pub open_behind : Result ⊤ Ending → State → Option ℕ
open_behind (Ok x) s = Some s.last
open_behind (Err (ending.Closed why)) s = Some s.last
open_behind (Err (ending.NotBuilt n)) s = Some s.last
open_behind (Err ending.StoreFault) s = None
open_behind (Err ending.LinkFault) s = Some s.last
open_behind (Err ending.AppFault) s = Some s.last
open_behind (Err ending.NumbersSpent) s = Some s.last
open_behind (Err ending.OutOfMemory) s = Some s.last

-- what a run that ended so answers
abbrev pub run_end : Result ⊤ Ending → RunEnd
run_end (Ok x) = run.TurnsSpent
run_end (Err (ending.Closed why)) = run.Closed why
run_end (Err (ending.NotBuilt n)) = run.NotBuilt n
run_end (Err ending.StoreFault) = run.StoreFault
run_end (Err ending.LinkFault) = run.LinkFault
run_end (Err ending.AppFault) = run.AppFault
run_end (Err ending.NumbersSpent) = run.NumbersSpent
run_end (Err ending.OutOfMemory) = run.OutOfMemory

-- why the session is stopped after this answer
abbrev pub stop_cause : RunEnd → Option StopCause
stop_cause run.TurnsSpent = None
stop_cause (run.Closed why) = None
stop_cause (run.NotBuilt n) = None
stop_cause run.LinkFault = None
stop_cause run.NumbersSpent = None
stop_cause run.StoreFault = Some cause.StoreFault
stop_cause run.AppFault = Some cause.AppFault
stop_cause run.OutOfMemory = Some cause.OutOfMemory
stop_cause (run.Stopped c) = Some c

-- ---- the sending of a draft

-- whether the store failed
abbrev pub is_store_fault : {T : Type 0} → Result T SendFault → Bool
is_store_fault (Ok x) = false
is_store_fault (Err (fault.Stopped why)) = false
is_store_fault (Err fault.NumbersSpent) = false
is_store_fault (Err fault.OutOfMemory) = false
is_store_fault (Err fault.StoreFault) = true
is_store_fault (Err (fault.LinkFault n)) = false

-- how a turn goes on after the sending of a draft
abbrev pub sent_ending : {T : Type 0} → Result T SendFault → Result ⊤ Ending
sent_ending (Ok x) = Ok tt
sent_ending (Err (fault.Stopped cause.StoreFault)) = Err ending.StoreFault
sent_ending (Err (fault.Stopped cause.AppFault)) = Err ending.AppFault
sent_ending (Err (fault.Stopped cause.OutOfMemory)) = Err ending.OutOfMemory
sent_ending (Err fault.NumbersSpent) = Err ending.NumbersSpent
sent_ending (Err fault.OutOfMemory) = Err ending.OutOfMemory
sent_ending (Err fault.StoreFault) = Err ending.StoreFault
sent_ending (Err (fault.LinkFault n)) = Err ending.LinkFault

-- whether Cut is noted after this
abbrev pub is_link_fault : SendFault → Bool
is_link_fault (fault.LinkFault n) = true
is_link_fault (fault.Stopped why) = false
is_link_fault fault.NumbersSpent = false
is_link_fault fault.OutOfMemory = false
is_link_fault fault.StoreFault = false

-- how many entries the store has after this, if it is open
abbrev pub open_sent : {T : Type 0} → Result T SendFault → State → Option ℕ
open_sent (Ok x) s = Some s.last
open_sent (Err (fault.Stopped why)) s = Some s.last
open_sent (Err fault.NumbersSpent) s = Some s.last
open_sent (Err fault.OutOfMemory) s = Some s.last
open_sent (Err fault.StoreFault) s = None
open_sent (Err (fault.LinkFault n)) s = Some s.last

-- why the session is stopped after this answer
abbrev pub send_stop : {T : Type 0} → Result T SendFault → Option StopCause
send_stop (Ok x) = None
send_stop (Err (fault.Stopped why)) = Some why
send_stop (Err fault.NumbersSpent) = None
send_stop (Err fault.OutOfMemory) = Some cause.OutOfMemory
send_stop (Err fault.StoreFault) = Some cause.StoreFault
send_stop (Err (fault.LinkFault n)) = None

-- ---- the opening of the store

-- why a session is stopped whose store wasn't opened
abbrev pub load_stop : LoadFault → StopCause
load_stop load.Failed = cause.StoreFault
load_stop (load.Damaged place) = cause.StoreFault
load_stop load.OutOfMemory = cause.OutOfMemory

-- a stopped session stays as it is
abbrev pub stays_stopped : Option StopCause → LoadFault → Option StopCause
stays_stopped None fault = Some (load_stop fault)
stays_stopped (Some why) fault = Some why
