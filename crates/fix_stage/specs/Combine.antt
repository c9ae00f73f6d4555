-- What parts do, put together: one thing after another, until one ends the whole. A doing relates a value, the
-- calls of the calls, the answer and the value after them.
use Rattle.std.specs.Prelude.{List, [], ◌∷◌, ◌++◌, Result, Ok, Err, ⊤}
use Rattle.fix_outside.specs.Calls.{Call}

-- each item in turn, until one ends the whole
pub data Each {S X E : Type 0} (R : S → X → List Call → Result ⊤ E → S → Type 0) : S → List X → List Call
    → Result ⊤ E → S → Type 0 where
  none : {s : S} → Each R s [] [] (Ok tt) s
  ends : {s s' : S} {x : X} {xs : List X} {calls : List Call} {e : E} → R s x calls (Err e) s'
      → Each R s (x ∷ xs) calls (Err e) s'
  goes : {s mid s' : S} {x : X} {xs : List X} {first more : List Call} {r : Result ⊤ E} → R s x first (Ok tt) mid
      → Each R mid xs more r s' → Each R s (x ∷ xs) (first ++ more) r s'

-- the one, and where it doesn't end the whole, the other
pub data AndThen {S E : Type 0} (A B : S → List Call → Result ⊤ E → S → Type 0) : S → List Call → Result ⊤ E → S
    → Type 0 where
  first_ends : {s s' : S} {calls : List Call} {e : E} → A s calls (Err e) s' → AndThen A B s calls (Err e) s'
  both : {s mid s' : S} {first more : List Call} {r : Result ⊤ E} → A s first (Ok tt) mid → B mid more r s'
      → AndThen A B s (first ++ more) r s'

-- the doing of a part of a value, which leaves the rest of it as it is. Its fault is one of the whole
pub data Lifted {S T E F : Type 0} (get : T → S) (put : T → S → T) (fault : E → F)
    (R : S → List Call → Result ⊤ E → S → Type 0) (t : T) : List Call → Result ⊤ F → T → Type 0 where
  goes_well : {s : S} {calls : List Call} → R (get t) calls (Ok tt) s
      → Lifted get put fault R t calls (Ok tt) (put t s)
  fails : {s : S} {calls : List Call} {e : E} → R (get t) calls (Err e) s
      → Lifted get put fault R t calls (Err (fault e)) (put t s)
