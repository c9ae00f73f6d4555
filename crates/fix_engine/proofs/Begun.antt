-- A loop of which a relation says what is still to be done: whatever the rest does makes the whole.
use Rattle.std.proofs.Common.{List, [], ◌++◌, Result, sym, subst, append_assoc}
use Rattle.std.specs.Prelude.{⊤}
use Rattle.fix_base.specs.Trace.{Note, OutsideSeen, Trace, HasTrace}
use Rattle.fix_base.proofs.SeenLemmas.{Trace-nil, Trace-append}
use Rattle.fix_engine.specs.State.{Ending}

-- what was done so far
pub record Begun {S : Type 0} (Whole : List Note → Result ⊤ Ending → S → Type 0)
    (Rest : S → List Note → Result ⊤ Ending → S → Type 0) (from at : OutsideSeen) (mid : S) : Type 0 where
  pub notes : List Note
  pub moves : Trace from at notes
  pub goes_on : (more : List Note) (r : Result ⊤ Ending) (s' : S) → Rest mid more r s' → Whole (notes ++ more) r s'

module _ {S : Type 0} (Whole : List Note → Result ⊤ Ending → S → Type 0) where
  pub begin : (Rest : S → List Note → Result ⊤ Ending → S → Type 0) (w : OutsideSeen) (s : S) →
      ((more : List Note) (r : Result ⊤ Ending) (s' : S) → Rest s more r s' → Whole more r s') → Begun Whole Rest w w s
  begin Rest w s h = record { notes = []; moves = Trace-nil w; goes_on = h }

  -- a part is done, and another is left
  pub on : (Rest Rest' : S → List Note → Result ⊤ Ending → S → Type 0) (a b c : OutsideSeen) (mid mid' : S) →
      Begun Whole Rest a b mid → HasTrace b c (λ notes. (more : List Note) (r : Result ⊤ Ending) (s' : S) →
      Rest' mid' more r s' → Rest mid (notes ++ more) r s') → Begun Whole Rest' a c mid'
  on Rest Rest' a b c mid mid' before step = record {
    notes = before.notes ++ step.0;
    moves = Trace-append _ _ _ _ _ before.moves step.1;
    goes_on = λ more r s' e. subst (λ notes. Whole notes r s') (sym (append_assoc before.notes step.0 more))
        (before.goes_on _ _ _ (step.2 more r s' e));
  }

  -- what is left is done
  pub end_of : (Rest : S → List Note → Result ⊤ Ending → S → Type 0) (a b c : OutsideSeen) (mid s' : S)
      (r : Result ⊤ Ending) → Begun Whole Rest a b mid → HasTrace b c (λ notes. Rest mid notes r s') →
      HasTrace a c (λ notes. Whole notes r s')
  end_of Rest a b c mid s' r before step =
      (before.notes ++ step.0, Trace-append _ _ _ _ _ before.moves step.1, before.goes_on _ _ _ step.2)
