-- A loop of which a relation says what is still to be done: whatever the rest does makes the whole.
use Rattle.std.proofs.Common.{List, [], ◌++◌, Result, sym, subst, append_assoc}
use Rattle.std.specs.Prelude.{⊤}
use Rattle.fix_base.specs.Trace.{OutsideSeen}
use Rattle.fix_outside.specs.Calls.{Call, Called, HasCalls}
use Rattle.fix_outside.proofs.CallLemmas.{Called-nil, Called-append}
use Rattle.fix_steps.specs.declared.ending.Ending.{Ending}

-- what was done so far
pub record Begun {S : Type 0} (Whole : List Call → Result ⊤ Ending → S → Type 0)
    (Rest : S → List Call → Result ⊤ Ending → S → Type 0) (from at : OutsideSeen) (mid : S) : Type 0 where
  pub calls : List Call
  pub moves : Called from at calls
  pub goes_on : (more : List Call) (r : Result ⊤ Ending) (s' : S) → Rest mid more r s' → Whole (calls ++ more) r s'

module _ {S : Type 0} (Whole : List Call → Result ⊤ Ending → S → Type 0) where
  pub begin : (Rest : S → List Call → Result ⊤ Ending → S → Type 0) (w : OutsideSeen) (s : S) →
      ((more : List Call) (r : Result ⊤ Ending) (s' : S) → Rest s more r s' → Whole more r s') → Begun Whole Rest w w s
  begin Rest w s h = record { calls = []; moves = Called-nil w; goes_on = h }

  -- a part is done, and another is left
  pub on : (Rest : S → List Call → Result ⊤ Ending → S → Type 0) (a b c : OutsideSeen) (mid mid' : S) →
      Begun Whole Rest a b mid → HasCalls b c (λ calls. (more : List Call) (r : Result ⊤ Ending) (s' : S) →
      Rest mid' more r s' → Rest mid (calls ++ more) r s') → Begun Whole Rest a c mid'
  on Rest a b c mid mid' before step = record {
    calls = before.calls ++ step.0;
    moves = Called-append _ _ _ _ _ before.moves step.1;
    goes_on = λ more r s' e. subst (λ calls. Whole calls r s') (sym (append_assoc before.calls step.0 more))
        (before.goes_on _ _ _ (step.2 more r s' e));
  }

  -- what is left is done
  pub end_of : (Rest : S → List Call → Result ⊤ Ending → S → Type 0) (a b c : OutsideSeen) (mid s' : S)
      (r : Result ⊤ Ending) → Begun Whole Rest a b mid → HasCalls b c (λ calls. Rest mid calls r s') →
      HasCalls a c (λ calls. Whole calls r s')
  end_of Rest a b c mid s' r before step =
      (before.calls ++ step.0, Called-append _ _ _ _ _ before.moves step.1, before.goes_on _ _ _ step.2)
