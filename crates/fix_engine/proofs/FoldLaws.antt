-- What holds of each part of a run holds of the run: a law says what of one part after another, and of each part.
use Rattle.std.proofs.Common.{List, [], ◌∷◌, ◌++◌, Result, Ok, Err, ℕ, replicate}
use Rattle.std.specs.Prelude.{⊤}
use Rattle.fix_base.specs.declared.identity.Identity.{Identity}
use Rattle.fix_base.specs.declared.act.Act.TheVariants as act
use Rattle.fix_base.specs.Stream.{UnreadBytes}
use Rattle.fix_base.specs.Trace.{Note, Did}
use Rattle.fix_frame.specs.Given.{GivesFrame, GivesNone}
use Rattle.fix_engine.specs.State.{State, Ending}
use Rattle.fix_engine.specs.declared.state.Ending.TheVariants as ending
use Rattle.fix_engine.specs.Fold.{Each, none, ends, goes, AndThen, first_ends, both}
use Rattle.fix_engine.specs.Answer.{AnswerFrame}
use Rattle.fix_engine.specs.Reading as read
use Rattle.fix_engine.specs.Reading.{ConnectionSeen, connection_seen, AnswerFrames, StoreExpected}
use Rattle.fix_engine.specs.Turn as turns
use Rattle.fix_engine.specs.Turn.{TurnSeen, Beside, SendReadClock, Turn, OneTurn, TakeTurns, RunAndCut, put_down}

-- a law: it holds where nothing is done, and of a part that goes on with another after it
pub record Composes {S : Type 0} (P : S → List Note → Result ⊤ Ending → S → Type 0) : Type 0 where
  pub nothing : (s : S) → P s [] (Ok tt) s
  pub then : (s mid to : S) (first more : List Note) (r : Result ⊤ Ending) → P s first (Ok tt) mid → P mid more r to →
      P s (first ++ more) r to

-- it holds of all that this comes to
abbrev pub Has : {S : Type 0} → (S → List Note → Result ⊤ Ending → S → Type 0) → (S → List Note → Result ⊤ Ending → S
    → Type 0) → Type 0
Has {S} P R = (s : S) (notes : List Note) (r : Result ⊤ Ending) (to : S) → R s notes r to → P s notes r to

-- of each of a list
pub each_has : {S X : Type 0} (P : S → List Note → Result ⊤ Ending → S → Type 0) (R : S → X → List Note → Result ⊤
    Ending → S → Type 0) → Composes P → ((x : X) → Has P (λ s. R s x)) → (xs : List X) → Has P (λ s. Each R s xs)
each_has P R law one [] s notes r to none = law.nothing s
each_has P R law one (x ∷ xs) s notes r to (ends {e = e} d) = one x s notes (Err e) to d
each_has P R law one (x ∷ xs) s notes r to (goes {mid = mid} {first = first} {more = more} d k) =
    law.then s mid to first more r (one x s first (Ok tt) mid d) (each_has P R law one xs mid more r to k)

-- of one and then another
pub then_has : {S : Type 0} (P A B : S → List Note → Result ⊤ Ending → S → Type 0) → Composes P → Has P A → Has P B →
    Has P (AndThen A B)
then_has P A B law one other s notes r to (first_ends {e = e} d) = one s notes (Err e) to d
then_has P A B law one other s notes r to (both {mid = mid} {first = first} {more = more} d k) =
    law.then s mid to first more r (one s first (Ok tt) mid d) (other mid more r to k)

-- of the frames that stand whole in the bytes
pub frames_have : (id : Identity) (P : ConnectionSeen → List Note → Result ⊤ Ending → ConnectionSeen → Type 0) →
    Composes P → ((s : State) (a b : UnreadBytes) → GivesNone a b →
    P (connection_seen s a) [] (Ok tt) (connection_seen s b)) →
    ((s to : State) (a b : UnreadBytes) (frame : List ℕ) (notes : List Note) (r : Result ⊤ Ending) → GivesFrame a b frame →
    AnswerFrame id s frame notes r to → P (connection_seen s a) notes r (connection_seen to b)) → Has P (AnswerFrames id)
frames_have id P law rest one l notes r to (read.no_more {s = s} {a = a} {b = b} gives) = rest s a b gives
frames_have id P law rest one l notes r to (read.ends {s = s} {s' = s'} {a = a} {b = b} {e = e} frame gives h) =
    one s s' a b frame notes (Err e) gives h
frames_have id P law rest one l notes r to (read.goes {s = s} {mid = mid} {a = a} {b = b} {first = first} {more = more}
    frame gives h others) =
    law.then (connection_seen s a) (connection_seen mid b) to first more r (one s mid a b frame first (Ok tt) gives h)
    (frames_have id P law rest one (connection_seen mid b) more r to others)

-- a law of runs: also of a turn's last part, which comes after an end too, and of what is noted after the turns
pub record ComposesRuns (P : TurnSeen → List Note → Result ⊤ Ending → TurnSeen → Type 0) : Type 0 where
  pub parts : Composes P
  pub stored : (d mid to : TurnSeen) (first more : List Note) (met : Result ⊤ Ending) → P d first met mid →
      P mid more (Ok tt) to → P d (first ++ more) met to
  pub not_stored : (d mid to : TurnSeen) (first more : List Note) (met : Result ⊤ Ending) (e : Ending) →
      P d first met mid → P mid more (Err e) to → P d (first ++ more) (Err e) to
  pub cut : (d to : TurnSeen) (notes : List Note) (e : Ending) → P d notes (Err e) to →
      P d (notes ++ Did act.Cut ∷ []) (Err e) (put_down to)
  pub cut_memory : (d to : TurnSeen) (notes : List Note) (e : Ending) → P d notes (Err e) to →
      P d notes (Err ending.OutOfMemory) (put_down to)
  pub no_cut : (d to : TurnSeen) (notes : List Note) (e : Ending) → P d notes (Err e) to → P d notes (Err e) (put_down to)

module _ (id : Identity) (P : TurnSeen → List Note → Result ⊤ Ending → TurnSeen → Type 0) (law : ComposesRuns P) where
  -- of a turn
  pub turn_has : Has P (SendReadClock id) → Has P (Beside StoreExpected) → Has P (Turn id)
  turn_has one last d notes r to (turns.stops h k) = one d notes r to k
  turn_has one last d notes r to (turns.keeps {mid = mid} {first = first} {more = more} h k e) =
      law.stored d mid to first more r (one d first r mid k) (last mid more (Ok tt) to e)
  turn_has one last d notes r to (turns.keeps_not {mid = mid} {met = met} {first = first} {more = more} {e = e} h k lost) =
      law.not_stored d mid to first more met e (one d first met mid k) (last mid more (Err e) to lost)

  -- of turns
  pub turns_have : Has P (SendReadClock id) → Has P (Beside StoreExpected) → (n : ℕ) → Has P (TakeTurns id n)
  turns_have one last n d notes r to k =
      each_has P (OneTurn id) law.parts (λ u. turn_has one last) (replicate n tt) d notes r to k

  -- of a run
  pub run_has : Has P (SendReadClock id) → Has P (Beside StoreExpected) → (n : ℕ) → Has P (RunAndCut id n)
  run_has one last n d notes r to (turns.all_turns k) = turns_have one last n d notes (Ok tt) to k
  run_has one last n d notes r to (turns.cut {to = at} {notes = first} {e = e} h k) =
      law.cut d at first e (turns_have one last n d first (Err e) at k)
  run_has one last n d notes r to (turns.cut_memory {to = at} {e = e} h k) =
      law.cut_memory d at notes e (turns_have one last n d notes (Err e) at k)
  run_has one last n d notes r to (turns.no_cut {to = at} {e = e} h k) =
      law.no_cut d at notes e (turns_have one last n d notes (Err e) at k)
