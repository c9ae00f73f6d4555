-- Which part an ending blames, and that the part failed.
use Rattle.std.specs.Prelude.{Result, Ok, Err, ⊤}
use Rattle.fix_base.specs.Trace.{Faults}
use Rattle.fix_stage.specs.Causes.{Blame, NoPart, TheStore, TheLink, TheApp, HasRisen}
use Rattle.fix_steps.specs.declared.ending.Ending.{Ending}
use Rattle.fix_steps.specs.declared.ending.Ending.TheVariants as ending

abbrev pub blame_of : Ending → Blame
blame_of (ending.Closed why) = NoPart
blame_of ending.NumbersSpent = NoPart
blame_of ending.OutOfMemory = NoPart
blame_of ending.StoreFault = TheStore
blame_of ending.LinkFault = TheLink
blame_of ending.AppFault = TheApp

-- a fault is answered only where the count of the part that it blames rose
abbrev pub HasCause : Result ⊤ Ending → Faults → Faults → Type 0
HasCause (Ok x) old new = ⊤
HasCause (Err e) old new = HasRisen (blame_of e) old new
