-- Every `send` is a run of a lawful end.
use Rattle.std.specs.Prelude.{List, Result, Ok, Err}
use Rattle.fix_base.specs.declared.identity.Identity.{Identity}
use Rattle.fix_base.specs.EndStep.{EndState}
use Rattle.fix_base.specs.Trace.{Note, acts_of}
use Rattle.fix_engine.specs.declared.stop.SendFault.{SendFault}
use Rattle.fix_engine.specs.declared.stop.SendFault.TheVariants as fault
use Rattle.fix_engine.specs.Reading.{ConnectionSeen}
use Rattle.fix_engine.specs.Lawful.{IsCertain, MatchesDown, IsInDoubt, LawfulRunTo}
use Rattle.fix_engine.specs.InStep.{Matches}

-- the end after a `send` that gave this answer
abbrev pub AfterSend : {T : Type 0} → Identity → Result T SendFault → ConnectionSeen → EndState → Type 0
AfterSend id (Ok n) to e = Matches id to e
AfterSend id (Err (fault.Stopped why)) to e = ⊥
AfterSend id (Err fault.NumbersSpent) to e = Matches id to e
AfterSend id (Err fault.OutOfMemory) to e = IsCertain to.state e
AfterSend id (Err fault.StoreFault) to e = IsInDoubt to.state e
AfterSend id (Err (fault.LinkFault n)) to e = MatchesDown to.state e

-- whatever end is in step with a session before it, its acts are a run of it
abbrev pub IsLawfulSend : {T : Type 0} → Identity → ConnectionSeen → Result T SendFault → ConnectionSeen → List Note
    → Type 0
IsLawfulSend id l answer to notes = (e : EndState) → Matches id l e
    → LawfulRunTo id e (acts_of notes) (AfterSend id answer to)
