-- The last of what is done in turn.
use Rattle.std.proofs.Common.{List, [], ◌∷◌, Result, Ok, Err, subst}
use Rattle.std.proofs.lemmas.List.{append-nil}
use Rattle.std.specs.Prelude.{⊤}
use Rattle.fix_outside.specs.Calls.{Call}
use Rattle.fix_stage.specs.Combine.{Each, none, ends, goes}

pub last_one : {S X E : Type 0} (R : S → X → List Call → Result ⊤ E → S → Type 0) (s to : S) (x : X) (calls : List Call) (r : Result ⊤ E) → R s x calls r to → Each R s (x ∷ []) calls r to
last_one R s to x calls (Ok u) d = subst (λ l. Each R s (x ∷ []) l (Ok tt) to) (append-nil calls) (goes d none)
last_one R s to x calls (Err e) d = ends d
