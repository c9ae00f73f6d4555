-- What a session is seen as, and what comes of its calls.
use Rattle.std.specs.Prelude.{◌≡◌, ◌≤◌, ◌<◌, ◌+◌, ℕ, List, [], ◌∷◌, length, false, true, Option, Some, None, Result, Ok, Err, ⊤}
use Rattle.std.specs.FinMap as map
use Rattle.fix_base.specs.declared.identity.Identity.{Identity}
use Rattle.fix_base.specs.declared.entry.Stored.{Stored}
use Rattle.fix_base.specs.Stream.{UnreadBytes}
use Rattle.fix_base.specs.Trace.{Faults, OutsideSeen}
use Rattle.fix_settings.specs.declared.session_settings.SessionSettings.{SessionSettings}
use Rattle.fix_schedule.specs.declared.hours.Hours.{Hours}
use Rattle.fix_dict.specs.Dictionary.{DictionarySeen}
use Rattle.fix_outside.specs.declared.outside.LoadFault.{LoadFault}
use Rattle.fix_outside.specs.declared.outside.LoadFault.TheVariants as load
use Rattle.fix_outside.specs.Calls.{Call, Load}
use Rattle.fix_machine.specs.declared.state.Phase.TheVariants.{AwaitLogon}
use Rattle.fix_machine.specs.declared.state.Role.{Role}
use Rattle.fix_machine.specs.State.{stopped_at, resumed_at}
use Rattle.fix_stage.specs.declared.sender.Numbers.{Numbers}
use Rattle.fix_stage.specs.declared.fault.StageFault.{StageFault}
use Rattle.fix_stage.specs.Causes.{HasRisen}
use Rattle.fix_stage.specs.Stage.{no_stage}
use Rattle.fix_stage.specs.Sender.{no_draft, reopened_draft}
use Rattle.fix_steps.specs.declared.ending.Ending.{Ending}
use Rattle.fix_session.specs.State.{State}
use Rattle.fix_session.specs.Work.{WorkSeen, with_state}
use Rattle.fix_session.specs.Turn.{Runs}
use Rattle.fix_session.specs.Plan.{options_of, rules_of}
use Rattle.fix_session.specs.Begin.{Begins}
use Rattle.fix_session.specs.Send.{Posting, PostsOrLeaves}
use Rattle.fix_session.specs.Stops.{run_end, run_stop, begin_stop, send_end, send_stop, load_stop, load_blame}
use Rattle.fix_session.specs.declared.plan.SessionPlan.{SessionPlan}
use Rattle.fix_session.specs.declared.plan.SessionRefused.{SessionRefused}
use Rattle.fix_session.specs.declared.stop.StopCause.{StopCause}
use Rattle.fix_session.specs.declared.stop.StopCause.TheVariants as cause
use Rattle.fix_session.specs.declared.stop.RunEnd.{RunEnd}
use Rattle.fix_session.specs.declared.stop.RunEnd.TheVariants as run
use Rattle.fix_session.specs.declared.session.Made.{Made}
use Rattle.fix_session.specs.declared.stop.BeginFault.{BeginFault}
use Rattle.fix_session.specs.declared.stop.BeginFault.TheVariants as begins
use Rattle.fix_session.specs.declared.stop.SendFault.{SendFault}
use Rattle.fix_session.specs.declared.stop.SendFault.TheVariants as send

-- its plan, what it works on, and why it is stopped, if it is
pub record SessionSeen : Type 0 where
  pub identity : Identity
  pub role : Role
  pub settings : SessionSettings
  pub schedule : Option Hours
  pub dict : Option DictionarySeen
  pub work : WorkSeen
  pub stopped : Option StopCause

-- after a call: what it works on then, and why it is stopped
abbrev pub with_work : SessionSeen → WorkSeen → Option StopCause → SessionSeen
with_work old work stopped = record {
  identity = old.identity;
  role = old.role;
  settings = old.settings;
  schedule = old.schedule;
  dict = old.dict;
  work = work;
  stopped = stopped;
}

-- the first place of a stream
abbrev pub no_bytes : UnreadBytes
no_bytes = record { may_mark = true; bytes = [] }

-- the store is open, with an entry for each number that the session used
abbrev pub IsOpen : OutsideSeen → SessionSeen → Type 0
IsOpen w s = w.open_at ≡ Some s.work.state.sender.numbers.last

-- the numbers that a session can go on with
pub record AreNumbers (stored : Stored) : Type 0 where
  pub last : stored.last ≤ 999999999
  pub first : 1 ≤ stored.expected
  pub bound : stored.expected ≤ 1000000000

-- what it needs memory for
pub record IsMade (id : Identity) (settings : SessionSettings) (made : Made) : Type 0 where
  pub options : made.options ≡ options_of id settings
  pub waiting : made.waiting ≡ map.empty
  pub unread : made.reader.unread ≡ no_bytes
  pub room : length made.room.items ≡ 65536

-- ---- the store is opened

abbrev pub first_numbers : Stored → ℕ → Numbers
first_numbers stored reading = record {
  expected = stored.expected;
  stored_expected = stored.expected;
  last = stored.last;
  reading = reading;
}

abbrev pub first_state : Identity → SessionSettings → Stored → State
first_state id settings stored = record {
  machine = record {
    options = options_of id settings;
    state = stopped_at (options_of id settings) stored;
  };
  sender = record { numbers = first_numbers stored 0; stage = no_stage; pending = no_draft };
  waiting = map.empty;
  asked = stored.asked;
  logon_due = false;
}

-- a session that was just opened over these numbers
abbrev pub opened : SessionPlan → Stored → SessionSeen
opened plan stored = record {
  identity = plan.identity;
  role = plan.role;
  settings = plan.settings;
  schedule = plan.schedule;
  dict = plan.dict;
  work = record { state = first_state plan.identity plan.settings stored; unread = no_bytes };
  stopped = None;
}

abbrev pub refused : SessionPlan → LoadFault → SessionRefused
refused plan fault = record { plan = plan; fault = fault }

-- it has the numbers that the store told, or there is none. Memory is taken before the store is asked
pub data Opens (plan : SessionPlan) : Result Stored LoadFault → List Call → Result SessionSeen SessionRefused
    → Type 0 where
  from_stored : (stored : Stored) → Opens plan (Ok stored) (Load (Ok stored) ∷ []) (Ok (opened plan stored))
  no_memory : Opens plan (Err load.OutOfMemory) [] (Err (refused plan load.OutOfMemory))
  not_loaded : (fault : LoadFault) → Opens plan (Err fault) (Load (Err fault) ∷ []) (Err (refused plan fault))

abbrev pub OpenHasCause : {T : Type 0} → Result T SessionRefused → Faults → Faults → Type 0
OpenHasCause (Ok x) old new = ⊤
OpenHasCause (Err refused) old new = HasRisen (load_blame refused.fault) old new

-- the numbers are those of the store, and a draft in hand stays there unless the store has it
abbrev pub resumed : State → Stored → State
resumed s stored = record {
  machine = record { options = s.machine.options; state = resumed_at stored s.machine.state };
  sender = record {
    numbers = first_numbers stored s.sender.numbers.reading;
    stage = s.sender.stage;
    pending = reopened_draft s.sender.pending s.sender.numbers.last stored.last;
  };
  waiting = s.waiting;
  asked = stored.asked;
  logon_due = s.logon_due;
}

pub data Reopens (old : SessionSeen) : Result Stored LoadFault → List Call → Result ⊤ LoadFault → SessionSeen
    → Type 0 where
  again : (stored : Stored) → Reopens old (Ok stored) (Load (Ok stored) ∷ []) (Ok tt)
      (with_work old (with_state old.work (resumed old.work.state stored)) None)
  not_again : (fault : LoadFault) → Reopens old (Err fault) (Load (Err fault) ∷ []) (Err fault)
      (with_work old old.work (load_stop old.stopped fault))

-- ---- a connection

pub data BeginsTo (old : SessionSeen) : List Call → Result ⊤ BeginFault → SessionSeen → Type 0 where
  -- out of memory before the first call
  no_reader : BeginsTo old [] (Err begins.OutOfMemory) (with_work old old.work (Some cause.OutOfMemory))
  begins_to : {calls : List Call} {s : State}
      → Begins old.role old.settings.reset_on_logon old.work.state calls (Ok tt) s
      → BeginsTo old calls (Ok tt) (with_work old (record { state = s; unread = no_bytes }) None)
  begins_not : {calls : List Call} {s : State} (fault : BeginFault)
      → Begins old.role old.settings.reset_on_logon old.work.state calls (Err fault) s
      → BeginsTo old calls (Err fault) (with_work old (with_state old.work s) (Some (begin_stop fault)))

pub data RunsTo (turns : ℕ) (old : SessionSeen) : List Call → RunEnd → SessionSeen → Type 0 where
  runs : {calls : List Call} {w : WorkSeen} (r : Result ⊤ Ending)
      → Runs old.identity (rules_of old.settings old.dict) turns old.work calls r w
      → RunsTo turns old calls (run_end r) (with_work old w (run_stop (run_end r)))

-- after a run the expected number is the one that is kept, unless the store failed, no number was left or it was out of
-- memory
abbrev pub IsKeptAfter : RunEnd → State → Type 0
IsKeptAfter run.TurnsSpent s = s.sender.numbers.stored_expected ≡ s.sender.numbers.expected
IsKeptAfter (run.Closed why) s = s.sender.numbers.stored_expected ≡ s.sender.numbers.expected
IsKeptAfter run.LinkFault s = s.sender.numbers.stored_expected ≡ s.sender.numbers.expected
IsKeptAfter run.AppFault s = s.sender.numbers.stored_expected ≡ s.sender.numbers.expected
IsKeptAfter run.StoreFault s = ⊤
IsKeptAfter run.NumbersSpent s = ⊤
IsKeptAfter run.OutOfMemory s = ⊤
IsKeptAfter (run.Stopped c) s = ⊤

-- ---- a message outside of a turn

-- no Logon that asks for a reset is still to be sent
abbrev pub AsksNothing : State → Type 0
AsksNothing s = s.machine.state.phase ≡ AwaitLogon → s.asked ≡ true → 0 < s.sender.numbers.last

abbrev pub number_of_next : SessionSeen → ℕ
number_of_next old = old.work.state.sender.numbers.last + 1

pub data SendsTo (p : Posting) (old : SessionSeen) : List Call → Result ℕ SendFault → SessionSeen → Type 0 where
  -- every number is used
  spent : 999999999 ≤ old.work.state.sender.numbers.last → SendsTo p old [] (Err send.NumbersSpent) old
  sends : {calls : List Call} {s : State} (r : Result ⊤ StageFault) → old.work.state.sender.numbers.last < 999999999
      → PostsOrLeaves old.identity p old.work.state calls r s
      → SendsTo p old calls (send_end (number_of_next old) r)
      (with_work old (with_state old.work s) (send_stop (send_end (number_of_next old) r)))
