-- A run leaves a session at rest, and Down where it ended.
use Rattle.std.proofs.Common.{◌≡◌, ◌≢◌, ℕ, List, [], ◌∷◌, length, Option, Some, Result, Ok, Err, refl, ap, replicate, arith}
use Rattle.std.specs.Prelude.{⊤, IfSome, IfNone}
use Rattle.fix_base.specs.declared.identity.Identity.{Identity}
use Rattle.fix_base.specs.declared.entry.Stored.{Stored}
use Rattle.fix_base.specs.Session.{IsValidIdentity}
use Rattle.fix_base.specs.Trace.{OutsideSeen}
use Rattle.fix_settings.specs.declared.session_settings.SessionSettings.{SessionSettings}
use Rattle.fix_outside.specs.declared.outside.LoadFault.{LoadFault}
use Rattle.fix_outside.specs.declared.outside.LoadFault.TheVariants as load
use Rattle.fix_outside.specs.Calls.{Call, Load, Called}
use Rattle.fix_machine.specs.declared.state.Phase.{Phase}
use Rattle.fix_machine.specs.declared.state.Phase.TheVariants.{Down}
use Rattle.fix_machine.proofs.NumberLemmas.{every_adds}
use Rattle.fix_stage.specs.Combine.{Each, none, goes, goes_well}
use Rattle.fix_stage.specs.Causes.{HasFailed, HasRisen}
use Rattle.fix_stage.specs.Stage.{Staged, no_stage}
use Rattle.fix_stage.specs.Sender.{due_number}
use Rattle.fix_stage.specs.declared.sender.Sender.{Sender}
use Rattle.fix_stage.proofs.CombineLemmas.{has_risen}
use Rattle.fix_stage.proofs.SendingLemmas.{Flushed-empty}
use Rattle.fix_steps.specs.Causes.{HasCause}
use Rattle.fix_steps.specs.declared.ending.Ending.{Ending}
use Rattle.fix_steps.specs.declared.ending.Ending.TheVariants as ending
use Rattle.fix_steps.specs.Ending.{open_after}
use Rattle.fix_session.specs.Judged.{RulesSeen}
use Rattle.fix_session.specs.State.{State, IsSound}
use Rattle.fix_session.specs.InSync.{IsAtRest}
use Rattle.fix_session.specs.Work.{WorkSeen}
use Rattle.fix_session.specs.Turn as turns
use Rattle.fix_session.specs.Turn.{OneTurn, Turn, Runs, IsKept}
use Rattle.fix_session.specs.Stops.{run_end, run_stop, load_blame, RunHasCause, IsDownAfter}
use Rattle.fix_session.specs.Session.{AreNumbers, first_state, resumed, IsKeptAfter}
use Rattle.fix_session.proofs.BeginLemmas.{none_wait}
use Rattle.fix_session.proofs.SyncLemmas.{turns_sync}
use Rattle.fix_session.proofs.LiveLemmas.{turns_live}
use Rattle.fix_session.proofs.SendLemmas.{leaves_rest, left_down}

-- ---- at rest

abbrev IsUnstaged : WorkSeen → Type 0
IsUnstaged w = w.state.sender.stage ≡ no_stage

turn_unstaged : (id : Identity) (rules : RulesSeen) (w to : WorkSeen) (calls : List Call) → Turn id rules w calls (Ok tt) to → IsUnstaged to
turn_unstaged id rules w to calls (turns.stops e d) = cc
turn_unstaged id rules w to calls (turns.settles {mid = mid} e d (goes_well (goes_well {s = b} {calls = more} k))) =
    Flushed-empty (due_number mid.state.sender.numbers) mid.state.sender more (Ok tt) b k

turns_unstaged : (id : Identity) (rules : RulesSeen) (xs : List ⊤) (w to : WorkSeen) (calls : List Call) → IsUnstaged w → Each (OneTurn id rules) w xs calls (Ok tt) to → IsUnstaged to
turns_unstaged id rules [] w to calls h none = h
turns_unstaged id rules (x ∷ xs) w to calls h (goes {mid = mid} {first = a} {more = b} d k) = turns_unstaged id rules xs mid to b (turn_unstaged id rules w mid a d) k

pub run_rest : (id : Identity) (rules : RulesSeen) (n : ℕ) (w to : WorkSeen) (calls : List Call) (r : Result ⊤ Ending) (o : OutsideSeen) (open_at : Option ℕ)
    → Runs id rules n w calls r to → IsAtRest w.state → IsSound id o open_at to.state → IsAtRest to.state
run_rest id rules n w to calls r o open_at (turns.all_turns d) h g = record {
  settled = turns_sync every_adds id rules (replicate n tt) w to calls h.settled d;
  range = g.sender.range;
  unstaged = turns_unstaged id rules (replicate n tt) w to calls h.unstaged d;
  waiting = g.waiting;
}
run_rest id rules n w to calls r o open_at (turns.ended {mid = mid} {s = s} {more = more} d k) h g = leaves_rest id o open_at mid.state _ more (Ok tt) s k g
run_rest id rules n w to calls r o open_at (turns.ended_short {mid = mid} {s = s} {more = more} {f = f} d k) h g = leaves_rest id o open_at mid.state _ more (Err f) s k g

-- ---- Down

abbrev IsDownIf : Result ⊤ Ending → State → Type 0
IsDownIf (Ok x) s = s.machine.state.phase ≢ Down
IsDownIf (Err e) s = s.machine.state.phase ≡ Down

run_ends_down : (id : Identity) (rules : RulesSeen) (n : ℕ) (w to : WorkSeen) (calls : List Call) (r : Result ⊤ Ending) → w.state.machine.state.phase ≢ Down → Runs id rules n w calls r to
    → IsDownIf r to.state
run_ends_down id rules n w to calls r live (turns.all_turns d) = turns_live id rules (replicate n tt) w to calls live d
run_ends_down id rules n w to calls r live (turns.ended {mid = mid} {s = s} {more = more} d k) = left_down mid.state _ more (Ok tt) s k
run_ends_down id rules n w to calls r live (turns.ended_short {mid = mid} {s = s} {more = more} {f = f} d k) = left_down mid.state _ more (Err f) s k

down_after : (r : Result ⊤ Ending) (old : Phase) (s : State) → IsDownIf r s → IsDownAfter (run_end r) old s.machine.state.phase
down_after (Ok x) old s h = h
down_after (Err (ending.Closed why)) old s h = h
down_after (Err ending.StoreFault) old s h = h
down_after (Err ending.LinkFault) old s h = h
down_after (Err ending.AppFault) old s h = h
down_after (Err ending.NumbersSpent) old s h = h
down_after (Err ending.OutOfMemory) old s h = h

pub run_down : (id : Identity) (rules : RulesSeen) (n : ℕ) (w to : WorkSeen) (calls : List Call) (r : Result ⊤ Ending) (old : Phase) → w.state.machine.state.phase ≢ Down
    → Runs id rules n w calls r to → IsDownAfter (run_end r) old to.state.machine.state.phase
run_down id rules n w to calls r old live d = down_after r old to.state (run_ends_down id rules n w to calls r live d)

stop_down : (r : Result ⊤ Ending) (s : State) → IsDownIf r s → IfSome (run_stop (run_end r)) (λ cause. s.machine.state.phase ≡ Down)
stop_down (Ok x) s h = tt
stop_down (Err (ending.Closed why)) s h = tt
stop_down (Err ending.StoreFault) s h = h
stop_down (Err ending.LinkFault) s h = tt
stop_down (Err ending.AppFault) s h = h
stop_down (Err ending.NumbersSpent) s h = tt
stop_down (Err ending.OutOfMemory) s h = h

pub run_stops_down : (id : Identity) (rules : RulesSeen) (n : ℕ) (w to : WorkSeen) (calls : List Call) (r : Result ⊤ Ending) → w.state.machine.state.phase ≢ Down → Runs id rules n w calls r to
    → IfSome (run_stop (run_end r)) (λ cause. to.state.machine.state.phase ≡ Down)
run_stops_down id rules n w to calls r live d = stop_down r to.state (run_ends_down id rules n w to calls r live d)

-- ---- what else is said of an answer

pub run_open : (r : Result ⊤ Ending) (b : Sender) (at : Option ℕ) → at ≡ open_after r b → IfNone (run_stop (run_end r)) (at ≡ Some b.numbers.last)
run_open (Ok x) b at h = h
run_open (Err (ending.Closed why)) b at h = h
run_open (Err ending.StoreFault) b at h = tt
run_open (Err ending.LinkFault) b at h = h
run_open (Err ending.AppFault) b at h = tt
run_open (Err ending.NumbersSpent) b at h = h
run_open (Err ending.OutOfMemory) b at h = tt

pub run_kept : (r : Result ⊤ Ending) (s : State) → IsKept r s → IsKeptAfter (run_end r) s
run_kept (Ok x) s h = h
run_kept (Err (ending.Closed why)) s h = h
run_kept (Err ending.StoreFault) s h = tt
run_kept (Err ending.LinkFault) s h = h
run_kept (Err ending.AppFault) s h = h
run_kept (Err ending.NumbersSpent) s h = tt
run_kept (Err ending.OutOfMemory) s h = tt

pub run_caused : (r : Result ⊤ Ending) (old new : OutsideSeen) → HasCause r old.faults new.faults → RunHasCause (run_end r) old.faults new.faults
run_caused (Ok x) old new h = tt
run_caused (Err (ending.Closed why)) old new h = tt
run_caused (Err ending.StoreFault) old new h = h
run_caused (Err ending.LinkFault) old new h = h
run_caused (Err ending.AppFault) old new h = h
run_caused (Err ending.NumbersSpent) old new h = tt
run_caused (Err ending.OutOfMemory) old new h = tt

-- ---- a store that was opened

pub first_rest : (id : Identity) (settings : SessionSettings) (stored : Stored) → AreNumbers stored → IsAtRest (first_state id settings stored)
first_rest id settings stored h = record {
  settled = record {
    sync = record { expected = refl; last = omega arith; asked = refl };
    bounded = record { first = h.first; last = h.bound; gap = tt };
    version = refl;
  };
  range = record {
    expected = h.first;
    expected_bound = h.bound;
    stored_expected = h.first;
    stored_expected_bound = h.bound;
    last = omega (arith, h.last);
    reading = omega arith;
  };
  unstaged = refl;
  waiting = none_wait;
}

pub resumed_rest : (s : State) (stored : Stored) → AreNumbers stored → IsAtRest s → IsAtRest (resumed s stored)
resumed_rest s stored h rest =
    let none = ap (λ (x : Staged). length x.entries) rest.unstaged in
    record {
      settled = record {
        sync = record { expected = refl; last = omega (arith, none); asked = refl };
        bounded = record { first = h.first; last = h.bound; gap = rest.settled.bounded.gap };
        version = rest.settled.version;
      };
      range = record {
        expected = h.first;
        expected_bound = h.bound;
        stored_expected = h.first;
        stored_expected_bound = h.bound;
        last = omega (arith, none, h.last);
        reading = rest.range.reading;
      };
      unstaged = rest.unstaged;
      waiting = rest.waiting;
    }

pub load_failed : (fault : LoadFault) → HasFailed (load_blame fault) (Load (Err fault) ∷ [])
load_failed load.Failed = omega arith
load_failed (load.Damaged place) = tt
load_failed load.OutOfMemory = tt

pub load_caused : (fault : LoadFault) (old new : OutsideSeen) → Called old new (Load (Err fault) ∷ []) → HasRisen (load_blame fault) old.faults new.faults
load_caused fault old new h = has_risen (load_blame fault) old.faults new.faults (Load (Err fault) ∷ []) h.faults (load_failed fault)

-- a session that is sound at rest
pub sound_of : (id : Identity) (w : OutsideSeen) (open_at : Option ℕ) (s : State) → IsValidIdentity id → IsAtRest s → w.open_at ≡ open_at → IsSound id w open_at s
sound_of id w open_at s valid h opens = record {
  sender = record { valid = valid; range = h.range; opens = opens };
  bounded = h.settled.bounded;
  waiting = h.waiting;
  version = h.settled.version;
}
