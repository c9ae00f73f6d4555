-- The answer to a frame that waited leaves the other frames that wait.
use Rattle.std.proofs.Common.{◌≡◌, ℕ, List, [], false, Option, Result, refl, ◌∙◌}
use Rattle.std.specs.Prelude.{⊤}
use Rattle.fix_base.specs.declared.identity.Identity.{Identity}
use Rattle.fix_outside.specs.Calls.{Call}
use Rattle.fix_machine.specs.Event.{StepSeen}
use Rattle.fix_stage.specs.Combine.{AndThen, first_ends, both, goes_well, fails}
use Rattle.fix_steps.specs.declared.ending.Ending.{Ending}
use Rattle.fix_session.specs.Judged.{RulesSeen}
use Rattle.fix_session.specs.State.{State, expected_of}
use Rattle.fix_session.specs.Waits.{Waits, passes_by, unnumbered, waits, another_waits, no_room, wait_memory}
use Rattle.fix_session.specs.Answering.{Carrying, Stood, stood, Standing, AnswersFrame, not_judged, judged, Moves, stays, moves, Round}

abbrev Keeps : (State → List Call → Result ⊤ Ending → State → Type 0) → Type 0
Keeps R = (s : State) (calls : List Call) (r : Result ⊤ Ending) (to : State) → R s calls r to → to.waiting ≡ s.waiting

then_keeps : (A B : State → List Call → Result ⊤ Ending → State → Type 0) → Keeps A → Keeps B → Keeps (AndThen A B)
then_keeps A B a b s calls r to (first_ends h) = a _ _ _ _ h
then_keeps A B a b s calls r to (both h k) = b _ _ _ _ k ∙ a _ _ _ _ h

carrying_keeps : (id : Identity) (frame : Option (List ℕ)) (steps : List StepSeen) → Keeps (Carrying id frame steps)
carrying_keeps id frame steps s calls r to (goes_well h) = refl
carrying_keeps id frame steps s calls r to (fails h) = refl

stood_keeps : Keeps Stood
stood_keeps s calls r to stood = refl

standing_keeps : (id : Identity) (frame : Option (List ℕ)) (steps : List StepSeen) → Keeps (Standing id frame steps)
standing_keeps id frame steps = then_keeps (Carrying id frame steps) Stood (carrying_keeps id frame steps) stood_keeps

waits_keeps : (frame : List ℕ) (number : Option ℕ) → Keeps (Waits frame number [])
waits_keeps frame number s calls r to (passes_by e) = refl
waits_keeps frame number s calls r to (unnumbered e) = refl
waits_keeps frame number s calls r to (waits n so there alone room) = cc
waits_keeps frame number s calls r to (another_waits n so there one) = refl
waits_keeps frame number s calls r to (no_room n so there full) = refl
waits_keeps frame number s calls r to (wait_memory n so there alone) = refl

frame_keeps : (id : Identity) (rules : RulesSeen) (frame : List ℕ) → Keeps (AnswersFrame id rules false frame)
frame_keeps id rules frame s calls r to not_judged = refl
frame_keeps id rules frame s calls r to (judged i told h) =
    then_keeps _ _ (waits_keeps frame i.header.number) (standing_keeps id _ _) _ _ _ _ h

moves_keeps : (id : Identity) (before : ℕ) → Keeps (Moves id before)
moves_keeps id before s calls r to (stays e) = refl
moves_keeps id before s calls r to (moves e h) = standing_keeps id _ _ _ _ _ _ h

pub round_keeps : (id : Identity) (rules : RulesSeen) (frame : List ℕ) (s : State) (calls : List Call) (r : Result ⊤ Ending) (to : State) → Round id rules false frame s calls r to → to.waiting ≡ s.waiting
round_keeps id rules frame s calls r to h =
    then_keeps (AnswersFrame id rules false frame) (Moves id (expected_of s)) (frame_keeps id rules frame) (moves_keeps id (expected_of s)) s calls r to h
