-- What comes of beginning a connection: a session stays at rest, and each fault has its cause.
use Rattle.std.proofs.Common.{◌≡◌, ◌≢◌, ℕ, List, Bool, Some, None, Result, Ok, Err, refl, sym, ap, ◌∙◌, arith}
use Rattle.std.specs.Prelude.{⊤, length}
use Rattle.std.specs.Ordering.{nat_cmp}
use Rattle.std.specs.FinMap as map
use Rattle.fix_base.specs.declared.bytes.OutOfMemory.{OutOfMemory}
use Rattle.fix_base.specs.declared.identity.Identity.{Identity}
use Rattle.fix_base.specs.Trace.{OutsideSeen}
use Rattle.fix_outside.specs.Calls.{Call, HasCalls}
use Rattle.fix_machine.specs.declared.state.Phase.TheVariants.{Down}
use Rattle.fix_machine.specs.declared.state.Role.{Role}
use Rattle.fix_stage.specs.Combine.{AndThen, first_ends, both, Lifted, goes_well, fails}
use Rattle.fix_stage.specs.Causes.{Blaming}
use Rattle.fix_stage.specs.Sender.{IsInRange}
use Rattle.fix_stage.specs.Stage.{Staged, no_stage}
use Rattle.fix_stage.proofs.CombineLemmas.{Then-blames, has_risen}
use Rattle.fix_session.specs.declared.stop.StopCause.{StopCause}
use Rattle.fix_session.specs.declared.stop.BeginFault.{BeginFault}
use Rattle.fix_session.specs.declared.stop.BeginFault.TheVariants as begins
use Rattle.fix_session.specs.State.{State, IsWaitingUnder, AreWaiting, IsSound}
use Rattle.fix_session.specs.InSync.{IsSettled, IsAtRest}
use Rattle.fix_session.specs.Turn.{read_at}
use Rattle.fix_session.specs.Begin as begin
use Rattle.fix_session.specs.Begin.{TakesTime, AsksReset, Opening, Begins, anew, begun, begin_memory, open_begun}
use Rattle.fix_session.specs.Stops.{begin_blame, BeginHasCause}

-- ---- at rest

-- without its range
pub record IsQuiet (s : State) : Type 0 where
  pub settled : IsSettled s
  pub unstaged : s.sender.stage ≡ no_stage
  pub waiting : AreWaiting s.waiting

abbrev pub quiet : (s : State) → IsAtRest s → IsQuiet s
quiet s h = record { settled = h.settled; unstaged = h.unstaged; waiting = h.waiting }

abbrev pub at_rest : (s : State) → IsInRange s.sender → IsQuiet s → IsAtRest s
at_rest s r h = record { settled = h.settled; range = r; unstaged = h.unstaged; waiting = h.waiting }

pub read_quiet : (s : State) (time : ℕ) → IsQuiet s → IsQuiet (read_at s time)
read_quiet s time h = record {
  settled = record {
    sync = record { expected = h.settled.sync.expected; last = h.settled.sync.last; asked = h.settled.sync.asked };
    bounded = h.settled.bounded;
    version = h.settled.version;
  };
  unstaged = h.unstaged;
  waiting = h.waiting;
}

anew_quiet : (s : State) → IsQuiet s → IsQuiet (anew s)
anew_quiet s h = record {
  settled = record {
    sync = record {
      expected = refl;
      last = omega (arith, ap (λ (x : Staged). length x.entries) h.unstaged);
      asked = refl;
    };
    bounded = record { first = omega arith; last = omega arith; gap = h.settled.bounded.gap };
    version = h.settled.version;
  };
  unstaged = h.unstaged;
  waiting = h.waiting;
}

never : (n : ℕ) (frame : List ℕ) → None ≡ Some frame → IsWaitingUnder n frame
never n frame e = cc

pub none_wait : AreWaiting map.empty
none_wait n frame is = never n frame (sym (map.get-empty nat_cmp n) ∙ is)

begun_quiet : (role : Role) (s : State) → IsQuiet s → IsQuiet (begun role s)
begun_quiet role s h = record {
  settled = record {
    sync = record { expected = h.settled.sync.expected; last = h.settled.sync.last; asked = h.settled.sync.asked };
    bounded = record { first = h.settled.bounded.first; last = h.settled.bounded.last; gap = tt };
    version = h.settled.version;
  };
  unstaged = h.unstaged;
  waiting = none_wait;
}

opening_quiet : (role : Role) (s : State) (calls : List Call) (r : Result ⊤ BeginFault) (to : State) → Opening role s calls r to → IsQuiet s → IsQuiet to
opening_quiet role s calls r to begin.opened h = begun_quiet role s h
opening_quiet role s calls r to (begin.open_memory e) h = h

asking_quiet : (role : Role) (resets : Bool) (s : State) (calls : List Call) (r : Result ⊤ BeginFault) (to : State) → AsksReset role resets s calls r to → IsQuiet s → IsQuiet to
asking_quiet role resets s calls r to (begin.not_asked e) h = h
asking_quiet role resets s calls r to (begin.ask_kept e) h = anew_quiet s h
asking_quiet role resets s calls r to (begin.ask_lost e) h = h
asking_quiet role resets s calls r to (begin.ask_memory e) h = h

ask_and_open_quiet : (role : Role) (resets : Bool) (s : State) (calls : List Call) (r : Result ⊤ BeginFault) (to : State)
    → AndThen (AsksReset role resets) (Opening role) s calls r to → IsQuiet s → IsQuiet to
ask_and_open_quiet role resets s calls r to (first_ends {e = e} a) h = asking_quiet role resets s calls (Err e) to a h
ask_and_open_quiet role resets s calls r to (both {mid = mid} {first = first} {more = more} a o) h =
    opening_quiet role mid more r to o (asking_quiet role resets s first (Ok tt) mid a h)

pub begins_quiet : (role : Role) (resets : Bool) (s : State) (calls : List Call) (r : Result ⊤ BeginFault) (to : State) → Begins role resets s calls r to → IsQuiet s → IsQuiet to
begins_quiet role resets s calls r to (first_ends (fails (begin.time_memory e))) h = h
begins_quiet role resets s calls r to (both {more = more} (goes_well (begin.took time)) k) h =
    ask_and_open_quiet role resets (read_at s time) more r to k (read_quiet s time h)

-- ---- the phase

-- where no connection is begun, it stays
abbrev pub StaysIf : Result ⊤ BeginFault → State → State → Type 0
StaysIf (Ok x) s to = ⊤
StaysIf (Err e) s to = to.machine.state.phase ≡ s.machine.state.phase

opening_stays : (role : Role) (s : State) (calls : List Call) (r : Result ⊤ BeginFault) (to : State) → Opening role s calls r to → StaysIf r s to
opening_stays role s calls r to begin.opened = tt
opening_stays role s calls r to (begin.open_memory e) = refl

after_asking : (role : Role) (resets : Bool) (s mid : State) (calls more : List Call) (r : Result ⊤ BeginFault) (to : State) → AsksReset role resets s calls (Ok tt) mid
    → Opening role mid more r to → StaysIf r s to
after_asking role resets s mid calls more r to (begin.not_asked e) o = opening_stays role s more r to o
after_asking role resets s mid calls more r to (begin.ask_kept e) begin.opened = tt
after_asking role resets s mid calls more r to (begin.ask_kept e) (begin.open_memory f) = refl

asking_stays : (role : Role) (resets : Bool) (s : State) (calls : List Call) (r : Result ⊤ BeginFault) (to : State) → AsksReset role resets s calls r to → StaysIf r s to
asking_stays role resets s calls r to (begin.not_asked e) = tt
asking_stays role resets s calls r to (begin.ask_kept e) = tt
asking_stays role resets s calls r to (begin.ask_lost e) = refl
asking_stays role resets s calls r to (begin.ask_memory e) = refl

ask_and_open_stays : (role : Role) (resets : Bool) (s : State) (calls : List Call) (r : Result ⊤ BeginFault) (to : State)
    → AndThen (AsksReset role resets) (Opening role) s calls r to → StaysIf r s to
ask_and_open_stays role resets s calls r to (first_ends {e = e} a) = asking_stays role resets s calls (Err e) to a
ask_and_open_stays role resets s calls r to (both {mid = mid} {first = first} {more = more} a o) = after_asking role resets s mid first more r to a o

read_stays : (s : State) (time : ℕ) (r : Result ⊤ BeginFault) (to : State) → StaysIf r (read_at s time) to → StaysIf r s to
read_stays s time (Ok x) to h = tt
read_stays s time (Err e) to h = h

begins_stay : (role : Role) (resets : Bool) (s : State) (calls : List Call) (r : Result ⊤ BeginFault) (to : State) → Begins role resets s calls r to → StaysIf r s to
begins_stay role resets s calls r to (first_ends (fails (begin.time_memory e))) = refl
begins_stay role resets s calls r to (both {more = more} (goes_well (begin.took time)) k) =
    read_stays s time r to (ask_and_open_stays role resets (read_at s time) more r to k)

pub not_begun : (role : Role) (resets : Bool) (s : State) (calls : List Call) (e : BeginFault) (to : State) → Begins role resets s calls (Err e) to
    → to.machine.state.phase ≡ s.machine.state.phase
not_begun role resets s calls e to h = begins_stay role resets s calls (Err e) to h

opening_live : (role : Role) (s : State) (calls : List Call) (to : State) → Opening role s calls (Ok tt) to → to.machine.state.phase ≢ Down
opening_live role s calls to begin.opened = λ e. cc

-- a connection that is begun isn't Down
pub begun_live : (role : Role) (resets : Bool) (s : State) (calls : List Call) (to : State) → Begins role resets s calls (Ok tt) to → to.machine.state.phase ≢ Down
begun_live role resets s calls to (both (goes_well (begin.took time)) (both {mid = mid} {more = more} a o)) = opening_live role mid more to o

-- ---- it doesn't answer that it was stopped before

abbrev IsUnstopped : Result ⊤ BeginFault → Type 0
IsUnstopped (Ok x) = ⊤
IsUnstopped (Err (begins.Stopped why)) = ⊥
IsUnstopped (Err begins.OutOfMemory) = ⊤
IsUnstopped (Err begins.StoreFault) = ⊤

pub not_stopped : (fault : BeginFault) → IsUnstopped (Err fault) → (why : StopCause) → fault ≢ begins.Stopped why
not_stopped (begins.Stopped w) h why = absurd h
not_stopped begins.OutOfMemory h why = λ e. cc
not_stopped begins.StoreFault h why = λ e. cc

asking_unstopped : (role : Role) (resets : Bool) (s : State) (calls : List Call) (r : Result ⊤ BeginFault) (to : State) → AsksReset role resets s calls r to → IsUnstopped r
asking_unstopped role resets s calls r to (begin.not_asked e) = tt
asking_unstopped role resets s calls r to (begin.ask_kept e) = tt
asking_unstopped role resets s calls r to (begin.ask_lost e) = tt
asking_unstopped role resets s calls r to (begin.ask_memory e) = tt

opening_unstopped : (role : Role) (s : State) (calls : List Call) (r : Result ⊤ BeginFault) (to : State) → Opening role s calls r to → IsUnstopped r
opening_unstopped role s calls r to begin.opened = tt
opening_unstopped role s calls r to (begin.open_memory e) = tt

rest_unstopped : (role : Role) (resets : Bool) (s : State) (calls : List Call) (r : Result ⊤ BeginFault) (to : State)
    → AndThen (AsksReset role resets) (Opening role) s calls r to → IsUnstopped r
rest_unstopped role resets s calls r to (first_ends {e = e} a) = asking_unstopped role resets s calls (Err e) to a
rest_unstopped role resets s calls r to (both {mid = mid} {more = more} a o) = opening_unstopped role mid more r to o

pub begins_unstopped : (role : Role) (resets : Bool) (s : State) (calls : List Call) (r : Result ⊤ BeginFault) (to : State) → Begins role resets s calls r to → IsUnstopped r
begins_unstopped role resets s calls r to (first_ends (fails (begin.time_memory e))) = tt
begins_unstopped role resets s calls r to (both {more = more} (goes_well (begin.took time)) k) = rest_unstopped role resets (read_at s time) more r to k

-- ---- the clock

pub time_sound : (id : Identity) (w w' : OutsideSeen) (s : State) (calls : List Call) (r : Result ⊤ OutOfMemory) (to : State) → TakesTime s calls r to → w'.open_at ≡ w.open_at
    → IsInRange to.sender → IsSound id w (Some s.sender.numbers.last) s → IsSound id w' (Some to.sender.numbers.last) to
time_sound id w w' s calls r to (begin.took time) same range h = record {
  sender = record { valid = h.sender.valid; range = range; opens = same ∙ h.sender.opens };
  bounded = h.bounded;
  waiting = h.waiting;
  version = h.version;
}
time_sound id w w' s calls r to (begin.time_memory e) same range h = record {
  sender = record { valid = h.sender.valid; range = range; opens = same ∙ h.sender.opens };
  bounded = h.bounded;
  waiting = h.waiting;
  version = h.version;
}

pub time_stays : (s : State) (calls : List Call) (r : Result ⊤ OutOfMemory) (to : State) → TakesTime s calls r to → to.machine ≡ s.machine
time_stays s calls r to (begin.took time) = refl
time_stays s calls r to (begin.time_memory e) = refl

-- ---- causes

time_blames : Blaming begin_blame (Lifted begin.itself begin.instead begin_memory TakesTime)
time_blames s calls r to (goes_well d) = tt
time_blames s calls r to (fails d) = tt

asking_blames : (role : Role) (resets : Bool) → Blaming begin_blame (AsksReset role resets)
asking_blames role resets s calls r to (begin.not_asked e) = tt
asking_blames role resets s calls r to (begin.ask_kept e) = tt
asking_blames role resets s calls r to (begin.ask_lost e) = omega arith
asking_blames role resets s calls r to (begin.ask_memory e) = tt

opening_blames : (role : Role) → Blaming begin_blame (Opening role)
opening_blames role s calls r to begin.opened = tt
opening_blames role s calls r to (begin.open_memory e) = tt

pub begins_blames : (role : Role) (resets : Bool) → Blaming begin_blame (Begins role resets)
begins_blames role resets =
    Then-blames begin_blame _ (AndThen (AsksReset role resets) (Opening role)) time_blames
    (Then-blames begin_blame (AsksReset role resets) (Opening role) (asking_blames role resets) (opening_blames role))

pub begin_caused : (role : Role) (resets : Bool) (s : State) (r : Result ⊤ BeginFault) (to : State) (old new : OutsideSeen)
    → HasCalls old new (λ calls. Begins role resets s calls r to) → BeginHasCause r old.faults new.faults
begin_caused role resets s (Ok x) to old new h = tt
begin_caused role resets s (Err e) to old new h = has_risen (begin_blame e) old.faults new.faults h.0 h.1.faults (begins_blames role resets s h.0 (Err e) to h.2)
