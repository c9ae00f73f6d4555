-- Which part a fault blames, and that the part failed.
use Rattle.std.specs.Prelude.{◌<◌, List, Result, Ok, Err, ⊤}
use Rattle.fix_base.specs.Trace.{Faults, Rises, store_failures, link_failures, app_failures}
use Rattle.fix_outside.specs.Calls.{Call, notes_in}
use Rattle.fix_stage.specs.Sender.{StageFault, NumbersSpent, OutOfMemory, StoreFault, LinkFault}

-- the part that a fault blames, or none
pub data Blame : Type 0 where
  NoPart : Blame
  TheStore : Blame
  TheLink : Blame
  TheApp : Blame

-- the part failed among these
abbrev pub HasFailed : Blame → List Call → Type 0
HasFailed NoPart calls = ⊤
HasFailed TheStore calls = 0 < store_failures (notes_in calls)
HasFailed TheLink calls = 0 < link_failures (notes_in calls)
HasFailed TheApp calls = 0 < app_failures (notes_in calls)

-- its count rose
abbrev pub HasRisen : Blame → Faults → Faults → Type 0
HasRisen NoPart old new = ⊤
HasRisen TheStore old new = Rises 1 old.store new.store
HasRisen TheLink old new = Rises 1 old.link new.link
HasRisen TheApp old new = Rises 1 old.app new.app

-- a fault is answered only where the part that it blames failed
abbrev pub Blames : {E : Type 0} → (E → Blame) → Result ⊤ E → List Call → Type 0
Blames blame (Ok x) calls = ⊤
Blames blame (Err e) calls = HasFailed (blame e) calls

-- the same of all that this comes to
abbrev pub Blaming : {S E : Type 0} → (E → Blame) → (S → List Call → Result ⊤ E → S → Type 0) → Type 0
Blaming {S} {E} blame R = (s : S) (calls : List Call) (r : Result ⊤ E) (to : S) → R s calls r to → Blames blame r calls

abbrev pub blame_of : StageFault → Blame
blame_of NumbersSpent = NoPart
blame_of OutOfMemory = NoPart
blame_of StoreFault = TheStore
blame_of LinkFault = TheLink

-- a fault is answered only where the count of the part that it blames rose
abbrev pub HasCause : Result ⊤ StageFault → Faults → Faults → Type 0
HasCause (Ok x) old new = ⊤
HasCause (Err e) old new = HasRisen (blame_of e) old new
