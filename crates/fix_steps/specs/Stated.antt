-- What is stated of an answer in which no part failed.
use Rattle.std.specs.Prelude.{◌≤◌, ℕ, List, Option, IfSome}
use Rattle.fix_base.specs.Shape.{IsFrame}
use Rattle.fix_stage.specs.declared.sender.Sender.{Sender}
use Rattle.fix_stage.specs.Stated.{IsTimely}
use Rattle.fix_steps.specs.Leaves.{last_taken}

-- what is answered is a frame, where it is a message
abbrev pub IsRead : Option (List ℕ) → Type 0
IsRead frame = IfSome frame IsFrame

-- the last reading has a text, what is in hand is a draft, and each number that a message took is a MsgSeqNum
pub record IsSound (b : Sender) : Type 0 where
  pub timely : IsTimely b
  pub last : last_taken b ≤ 999999999
