-- What is stated of a run in which no part failed.
use Rattle.std.specs.Prelude.{◌≡◌, ◌≢◌, ◌⊎◌, ℕ, List, [], ◌∷◌, ◌++◌, Result, Err, ⊤}
use Rattle.fix_base.specs.declared.identity.Identity.{Identity}
use Rattle.fix_base.specs.Trace.{Note, Did, Failed, Asked}
use Rattle.fix_engine.specs.State.{Ending}
use Rattle.fix_engine.specs.declared.state.Ending.TheVariants as ending
use Rattle.fix_engine.specs.declared.stop.RunEnd.{RunEnd}
use Rattle.fix_engine.specs.declared.stop.RunEnd.TheVariants as run
use Rattle.fix_engine.specs.Turn.{TurnSeen, RunAndCut}
use Rattle.fix_engine.specs.Run.{RunsTo}

-- no part failed
abbrev pub IsFaultless : List Note → Type 0
IsFaultless [] = ⊤
IsFaultless (Did act ∷ notes) = IsFaultless notes
IsFaultless (Failed part ∷ notes) = ⊥
IsFaultless (Asked draft ∷ notes) = IsFaultless notes

-- with no further fault and with memory it goes on to some end
pub record GoesOn {S : Type 0} (R : S → List Note → Result ⊤ Ending → S → Type 0) (s : S) (notes : List Note) : Type 0
  where
    pub more : List Note
    pub faultless : IsFaultless more
    pub r : Result ⊤ Ending
    pub to : S
    pub whole : R s (notes ++ more) r to
    pub no_want : r ≢ Err ending.OutOfMemory

-- that there is no A is refuted. Classically this is A; it computes none
abbrev pub CanNotFail : Type 0 → Type 0
CanNotFail A = (A → ⊥) → ⊥

-- No part failed, and the notes, the answer and what is after them are those of a run; or out of memory,
-- and the notes are the front of those of a run that another answer ends. That run would have looked at bytes that
-- nobody looked at, so it is said that there is one, and not which.
abbrev pub IsAsStated : Identity → ℕ → TurnSeen → RunEnd → TurnSeen → List Note → Type 0
IsAsStated id n d answer to notes =
    IsFaultless notes × (((answer ≢ run.OutOfMemory) × RunsTo id n d answer to notes) ⊎
    ((answer ≡ run.OutOfMemory) × CanNotFail (GoesOn (RunAndCut id n) d notes)))
