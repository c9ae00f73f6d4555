-- Runs one after another, of which all but the last made all their turns, are one run.
use Rattle.std.proofs.Common.{◌≡◌, ℕ, zero, suc, ◌+◌, List, [], ◌∷◌, ◌++◌, Result, Ok, Err, refl, sym, ap, subst, ◌∙◌}
use Rattle.std.proofs.Common.{append_assoc, arith, replicate}
use Rattle.std.specs.Prelude.{⊤}
use Rattle.fix_base.specs.declared.identity.Identity.{Identity}
use Rattle.fix_base.specs.declared.act.Act.TheVariants as act
use Rattle.fix_base.specs.Trace.{Note, Did}
use Rattle.fix_engine.specs.State.{Ending}
use Rattle.fix_engine.specs.declared.state.Ending.TheVariants as ending
use Rattle.fix_engine.specs.declared.stop.RunEnd.{RunEnd}
use Rattle.fix_engine.specs.declared.stop.RunEnd.TheVariants as run
use Rattle.fix_engine.specs.Fold.{Each, none, goes}
use Rattle.fix_engine.specs.Turn as turns
use Rattle.fix_engine.specs.Turn.{TurnSeen, OneTurn, TakeTurns, RunAndCut, put_down}
use Rattle.fix_engine.specs.Faults.{run_end}
use Rattle.fix_engine.specs.Run.{RunsTo}
use Rattle.fix_engine.proofs.Turns.{never_spent}

each_append : {S X : Type 0} (R : S → X → List Note → Result ⊤ Ending → S → Type 0) (xs ys : List X) (s mid to : S)
    (first more : List Note) (r : Result ⊤ Ending) → Each R s xs first (Ok tt) mid → Each R mid ys more r to →
    Each R s (xs ++ ys) (first ++ more) r to
each_append R [] ys s mid to first more r none k = k
each_append R (x ∷ xs) ys s mid to first more r (goes {mid = at} {first = a} {more = b} d k) l =
    subst (λ notes. Each R s (x ∷ (xs ++ ys)) notes r to) (sym (append_assoc a b more))
    (goes d (each_append R xs ys at mid to b more r k l))

replicate-append : (m n : ℕ) → replicate {A = ⊤} (m + n) tt ≡ replicate {A = ⊤} m tt ++ replicate {A = ⊤} n tt
replicate-append zero n = let e : zero + n ≡ n = omega arith in ap (λ k. replicate {A = ⊤} k tt) e
replicate-append (suc m) n = let e : suc m + n ≡ suc (m + n) = omega arith in
    ap (λ k. replicate {A = ⊤} k tt) e ∙ ap (λ (us : List ⊤). tt ∷ us) (replicate-append m n)

module _ (id : Identity) (m n : ℕ) (d mid : TurnSeen) where
  turns_append : (to : TurnSeen) (first more : List Note) (r : Result ⊤ Ending) → TakeTurns id m d first (Ok tt) mid →
      TakeTurns id n mid more r to → TakeTurns id (m + n) d (first ++ more) r to
  turns_append to first more r k l = subst (λ us. Each (OneTurn id) d us (first ++ more) r to) (sym (replicate-append m n))
      (each_append (OneTurn id) (replicate m tt) (replicate n tt) d mid to first more r k l)

  run_append : (to : TurnSeen) (first more : List Note) (r : Result ⊤ Ending) → TakeTurns id m d first (Ok tt) mid →
      RunAndCut id n mid more r to → RunAndCut id (m + n) d (first ++ more) r to
  run_append to first more r k (turns.all_turns l) = turns.all_turns (turns_append to first more (Ok tt) k l)
  run_append to first more r k (turns.cut {to = at} {notes = others} {e = e} h l) =
      subst (λ notes. RunAndCut id (m + n) d notes (Err e) (put_down at)) (append_assoc first others (Did act.Cut ∷ []))
      (turns.cut h (turns_append at first others (Err e) k l))
  run_append to first more r k (turns.cut_memory {to = at} {e = e} h l) =
      turns.cut_memory h (turns_append at first more (Err e) k l)
  run_append to first more r k (turns.no_cut {to = at} {e = e} h l) = turns.no_cut h (turns_append at first more (Err e) k l)

-- a run that answers that all turns were made
all_made : (id : Identity) (n : ℕ) (d : TurnSeen) (notes : List Note) (r : Result ⊤ Ending) (to : TurnSeen) →
    run.TurnsSpent ≡ run_end r → RunAndCut id n d notes r to → TakeTurns id n d notes (Ok tt) to
all_made id n d notes r to e (turns.all_turns k) = k
all_made id n d notes r to e (turns.cut {e = end} h k) = absurd (never_spent end (sym e))
all_made id n d notes r to e (turns.cut_memory h k) = absurd (never_spent ending.OutOfMemory (sym e))
all_made id n d notes r to e (turns.no_cut {e = end} h k) = absurd (never_spent end (sym e))

-- the one run and the other are one
pub one_run : (id : Identity) (m n : ℕ) (d mid to : TurnSeen) (answer : RunEnd) (first more : List Note) →
    RunsTo id m d run.TurnsSpent mid first → RunsTo id n mid answer to more → RunsTo id (m + n) d answer to (first ++ more)
one_run id m n d mid to answer first more k l = record {
  r = l.r;
  answered = l.answered;
  ran = run_append id m n d mid to first more l.r (all_made id m d first k.r mid k.answered k.ran) l.ran;
}

-- and no turn is a run
pub no_turns : (id : Identity) (d : TurnSeen) → RunsTo id 0 d run.TurnsSpent d []
no_turns id d = record { r = Ok tt; answered = refl; ran = turns.all_turns none }
