-- How an answer ends before its last step, and what a store is after that.
use Rattle.std.specs.Prelude.{ℕ, Option, Some, None, Result, Ok, Err, ⊤}
use Rattle.fix_stage.specs.declared.sender.Sender.{Sender}
use Rattle.fix_stage.specs.declared.fault.StageFault.{StageFault}
use Rattle.fix_stage.specs.declared.fault.StageFault.TheVariants.{NumbersSpent, OutOfMemory, StoreFault, LinkFault}
use Rattle.fix_steps.specs.declared.ending.Ending.{Ending}
use Rattle.fix_steps.specs.declared.ending.Ending.TheVariants as ending

-- a fault of sending ends the answer
abbrev pub ending_of : StageFault → Ending
ending_of NumbersSpent = ending.NumbersSpent
ending_of OutOfMemory = ending.OutOfMemory
ending_of StoreFault = ending.StoreFault
ending_of LinkFault = ending.LinkFault

-- how many entries a store has that is open after this answer: one that failed isn't
abbrev pub open_after : Result ⊤ Ending → Sender → Option ℕ
open_after (Ok x) b = Some b.numbers.last
open_after (Err (ending.Closed why)) b = Some b.numbers.last
open_after (Err ending.NumbersSpent) b = Some b.numbers.last
open_after (Err ending.OutOfMemory) b = Some b.numbers.last
open_after (Err ending.StoreFault) b = None
open_after (Err ending.LinkFault) b = Some b.numbers.last
open_after (Err ending.AppFault) b = Some b.numbers.last
