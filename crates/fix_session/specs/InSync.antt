-- The machine of a session has the numbers that its sender has.
use Rattle.std.specs.Prelude.{◌≡◌, None}
use Rattle.fix_steps.specs.Leaves.{last_taken}
use Rattle.fix_steps.specs.Told.{IsBounded}
use Rattle.fix_stage.specs.Sender.{IsInRange}
use Rattle.fix_stage.specs.Stage.{no_stage}
use Rattle.fix_session.specs.State.{State, AreWaiting}

-- The number that is expected next, the last number that a message took, whether it is kept or staged, and whether a
-- reset by Logon is asked for
pub record InSync (s : State) : Type 0 where
  pub expected : s.machine.state.expected ≡ s.sender.numbers.expected
  pub last : s.machine.state.last ≡ last_taken s.sender
  pub asked : s.asked ≡ s.machine.state.reset_asked

-- and these lie within their bounds
pub record IsSettled (s : State) : Type 0 where
  pub sync : InSync s
  pub bounded : IsBounded s.machine.state
  pub version : s.machine.options.version ≡ None

-- between two calls: what the machine has is what the sender has, nothing is staged, and what waits are frames
pub record IsAtRest (s : State) : Type 0 where
  pub settled : IsSettled s
  pub range : IsInRange s.sender
  pub unstaged : s.sender.stage ≡ no_stage
  pub waiting : AreWaiting s.waiting
