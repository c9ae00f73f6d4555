-- What the parts of the engine do, put together: one thing after another, until one ends the whole. A
-- doing relates a state, the notes of the calls, the answer and the state after them.
use Rattle.std.specs.Prelude.{List, [], ◌∷◌, ◌++◌, Result, Ok, Err, ⊤}
use Rattle.fix_base.specs.Trace.{Note}
use Rattle.fix_engine.specs.State.{Ending}

-- each item in turn, until one ends the whole
pub data Each {S X : Type 0} (R : S → X → List Note → Result ⊤ Ending → S → Type 0) : S → List X → List Note →
    Result ⊤ Ending → S → Type 0 where
  none : {s : S} → Each R s [] [] (Ok tt) s
  ends : {s s' : S} {x : X} {xs : List X} {notes : List Note} {e : Ending} → R s x notes (Err e) s' →
      Each R s (x ∷ xs) notes (Err e) s'
  goes : {s mid s' : S} {x : X} {xs : List X} {first more : List Note} {r : Result ⊤ Ending} →
      R s x first (Ok tt) mid → Each R mid xs more r s' → Each R s (x ∷ xs) (first ++ more) r s'

-- the one, and where it doesn't end the whole, the other
pub data AndThen {S : Type 0} (A B : S → List Note → Result ⊤ Ending → S → Type 0) : S → List Note → Result ⊤ Ending →
    S → Type 0 where
  first_ends : {s s' : S} {notes : List Note} {e : Ending} → A s notes (Err e) s' → AndThen A B s notes (Err e) s'
  both : {s mid s' : S} {first more : List Note} {r : Result ⊤ Ending} → A s first (Ok tt) mid → B mid more r s' →
      AndThen A B s (first ++ more) r s'
