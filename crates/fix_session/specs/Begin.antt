-- A connection is begun: the clock is looked at, a reset is asked for where one is due, and the connection is noted.
use Rattle.std.specs.Prelude.{◌≡◌, ◌||◌, ℕ, List, [], ◌∷◌, Bool, true, false, Option, Some, None, Result, Ok, Err, ⊤}
use Rattle.std.specs.FinMap as map
use Rattle.fix_base.specs.declared.bytes.OutOfMemory.{OutOfMemory}
use Rattle.fix_base.specs.declared.entry.Record.TheVariants.{ResetAsk}
use Rattle.fix_outside.specs.declared.outside.KeepFault.TheVariants as keep
use Rattle.fix_outside.specs.Calls.{Call, Look, Mark, Keep}
use Rattle.fix_machine.specs.declared.state.Role.{Role}
use Rattle.fix_machine.specs.declared.state.Role.TheVariants.{Acceptor, Initiator}
use Rattle.fix_machine.specs.Event.{Begin}
use Rattle.fix_machine.specs.State.{resumed_at}
use Rattle.fix_stage.specs.Combine.{AndThen, Lifted}
use Rattle.fix_stage.specs.declared.sender.Sender.{Sender}
use Rattle.fix_stage.specs.Sender.{with_numbers}
use Rattle.fix_steps.specs.Resetting.{numbers_reset}
use Rattle.fix_session.specs.State.{State, decided}
use Rattle.fix_session.specs.Turn.{read_at}
use Rattle.fix_session.specs.declared.stop.BeginFault.{BeginFault}
use Rattle.fix_session.specs.declared.stop.BeginFault.TheVariants as begins

-- ---- 1. the clock

-- one look at it
pub data TakesTime (s : State) : List Call → Result ⊤ OutOfMemory → State → Type 0 where
  took : (time : ℕ) → TakesTime s (Look (Ok time) ∷ []) (Ok tt) (read_at s time)
  time_memory : (e : OutOfMemory) → TakesTime s (Look (Err e) ∷ []) (Err e) s

abbrev pub itself : State → State
itself s = s

abbrev pub instead : State → State → State
instead s to = to

abbrev pub begin_memory : OutOfMemory → BeginFault
begin_memory e = begins.OutOfMemory

-- ---- 2. a reset by Logon

-- an initiator asks for one where its settings say so, and again where one that was asked for isn't answered
abbrev pub asks : Role → Bool → State → Bool
asks Acceptor resets s = false
asks Initiator resets s = resets || s.asked

-- both lists of numbers begin anew, and the next Logon asks the counterparty for the same
abbrev pub anew : State → State
anew s = record {
  machine = record {
    options = s.machine.options;
    state = resumed_at (record { last = 0; expected = 1; since = None; asked = true }) s.machine.state;
  };
  sender = with_numbers s.sender (numbers_reset s.sender.numbers);
  waiting = s.waiting;
  asked = true;
  logon_due = s.logon_due;
}

pub data AsksReset (role : Role) (resets : Bool) (s : State) : List Call → Result ⊤ BeginFault → State → Type 0 where
  not_asked : asks role resets s ≡ false → AsksReset role resets s [] (Ok tt) s
  ask_kept : asks role resets s ≡ true
      → AsksReset role resets s (Keep (ResetAsk s.sender.numbers.reading) (Ok tt) ∷ []) (Ok tt) (anew s)
  ask_lost : asks role resets s ≡ true
      → AsksReset role resets s (Keep (ResetAsk s.sender.numbers.reading) (Err keep.Failed) ∷ [])
      (Err begins.StoreFault) s
  ask_memory : asks role resets s ≡ true
      → AsksReset role resets s (Keep (ResetAsk s.sender.numbers.reading) (Err keep.OutOfMemory) ∷ [])
      (Err begins.OutOfMemory) s

-- ---- 3. the connection

abbrev pub is_initiator : Role → Bool
is_initiator Acceptor = false
is_initiator Initiator = true

-- its first message must be a Logon: an initiator sends its own in the next turn. Nothing waits
abbrev pub begun : Role → State → State
begun role s = record {
  machine = (decided s (Begin role s.sender.numbers.reading)).machine;
  sender = s.sender;
  waiting = map.empty;
  asked = s.asked;
  logon_due = is_initiator role;
}

pub data Opening (role : Role) (s : State) : List Call → Result ⊤ BeginFault → State → Type 0 where
  opened : Opening role s (Mark false (Ok tt) ∷ []) (Ok tt) (begun role s)
  open_memory : (e : OutOfMemory) → Opening role s (Mark false (Err e) ∷ []) (Err begins.OutOfMemory) s

-- ---- all of it

abbrev pub Begins : Role → Bool → State → List Call → Result ⊤ BeginFault → State → Type 0
Begins role resets = AndThen (Lifted itself instead begin_memory TakesTime)
    (AndThen (AsksReset role resets) (Opening role))

-- how many entries a store has that is open after this answer: one that failed isn't
abbrev pub open_begun : Result ⊤ BeginFault → Sender → Option ℕ
open_begun (Ok x) b = Some b.numbers.last
open_begun (Err (begins.Stopped c)) b = Some b.numbers.last
open_begun (Err begins.OutOfMemory) b = Some b.numbers.last
open_begun (Err begins.StoreFault) b = None

-- no part failed
abbrev pub IsMemory : Result ⊤ BeginFault → Type 0
IsMemory (Ok x) = ⊤
IsMemory (Err (begins.Stopped c)) = ⊥
IsMemory (Err begins.OutOfMemory) = ⊤
IsMemory (Err begins.StoreFault) = ⊥
