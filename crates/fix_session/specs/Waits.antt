-- The frames that wait until the numbers before theirs have come.
use Rattle.std.specs.Prelude.{◌≡◌, ℕ, if◌then◌else◌, nat_lt, List, [], ◌++◌, length, Bool, true, false}
use Rattle.std.specs.Prelude.{Option, Some, None, IsSome, Result, Ok, Err, ⊤}
use Rattle.std.specs.List.{list_any}
use Rattle.std.specs.FinMap as map
use Rattle.fix_outside.specs.Calls.{Call}
use Rattle.fix_machine.specs.Event.{StepSeen, Send, Serve, Hand, Stash, Expect, Reset, Confirm, Close, Nothing}
use Rattle.fix_resend.specs.Waiting.{Waiting, IsFull, from_number}
use Rattle.fix_steps.specs.declared.ending.Ending.{Ending}
use Rattle.fix_steps.specs.declared.ending.Ending.TheVariants as ending
use Rattle.fix_session.specs.State.{State, with_waiting, expected_of}

-- ---- a frame is to wait

abbrev pub is_stash : StepSeen → Bool
is_stash (Send say) = false
is_stash (Serve from to) = false
is_stash Hand = false
is_stash Stash = true
is_stash (Expect number) = false
is_stash Reset = false
is_stash Confirm = false
is_stash (Close why) = false
is_stash Nothing = false

-- A step of the answer lets the frame wait under this number: then it waits, unless one of its number does, or there is
-- no room for it
pub data Waits (frame : List ℕ) (number : Option ℕ) (steps : List StepSeen) (s : State) : List Call
    → Result ⊤ Ending → State → Type 0 where
  passes_by : list_any is_stash steps ≡ false → Waits frame number steps s [] (Ok tt) s
  unnumbered : number ≡ None → Waits frame number steps s [] (Ok tt) s
  waits : (n : ℕ) → list_any is_stash steps ≡ true → number ≡ Some n → (IsSome (map.get s.waiting n) → ⊥)
      → (IsFull s.waiting (length frame) → ⊥)
      → Waits frame number steps s [] (Ok tt) (with_waiting s (map.insert s.waiting n frame))
  another_waits : (n : ℕ) → list_any is_stash steps ≡ true → number ≡ Some n → IsSome (map.get s.waiting n)
      → Waits frame number steps s [] (Ok tt) s
  no_room : (n : ℕ) → list_any is_stash steps ≡ true → number ≡ Some n → IsFull s.waiting (length frame)
      → Waits frame number steps s [] (Ok tt) s
  wait_memory : (n : ℕ) → list_any is_stash steps ≡ true → number ≡ Some n → (IsSome (map.get s.waiting n) → ⊥)
      → Waits frame number steps s [] (Err ending.OutOfMemory) s

-- ---- a frame waits no longer

-- the frame that waits under this number
abbrev pub waits_at : ℕ → Waiting → Option (List ℕ)
waits_at n w = if nat_lt 999999999 n then None else map.get w n

-- what waits after the number n: the frame of n is taken out, and those below it are dropped
abbrev pub left_after : ℕ → Waiting → Waiting
left_after n w = if nat_lt 999999999 n then from_number n w else map.remove (from_number n w) n

-- the frame that waits at the expected number
abbrev pub due_frame : State → Option (List ℕ)
due_frame s = waits_at (expected_of s) (from_number (expected_of s) s.waiting)

abbrev pub passed : State → State
passed s = with_waiting s (left_after (expected_of s) s.waiting)

-- ---- one thing after another, as long as there is a next

pub data While {S X E : Type 0} (next : S → Option X) (go : S → S) (R : S → X → List Call → Result ⊤ E → S → Type 0)
    : S → List Call → Result ⊤ E → S → Type 0 where
  rests : {s : S} → next s ≡ None → While next go R s [] (Ok tt) (go s)
  stops : {s s' : S} {calls : List Call} {e : E} (x : X) → next s ≡ Some x → R (go s) x calls (Err e) s'
      → While next go R s calls (Err e) s'
  goes_on : {s mid s' : S} {first more : List Call} {r : Result ⊤ E} (x : X) → next s ≡ Some x
      → R (go s) x first (Ok tt) mid → While next go R mid more r s' → While next go R s (first ++ more) r s'
