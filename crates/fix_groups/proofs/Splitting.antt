-- What is answered of fields that are split.
use Rattle.std.proofs.Common.{◌≡◌, List, Some, None, Err, sym, ap, subst, ◌∙◌}
use Rattle.fix_base.specs.Fields.{Field}
use Rattle.fix_base.specs.Says.{fields_text}
use Rattle.fix_fields.specs.Shapes.{Shapes}
use Rattle.fix_fields.specs.NoTwice.{HasNoTwice}
use Rattle.fix_groups.specs.Tagged.{all_tagged}
use Rattle.fix_groups.specs.Misfits.{first_misfit}
use Rattle.fix_groups.specs.Fits.{IsTreeOf}
use Rattle.fix_groups.specs.Flat.{flat, plainly}
use Rattle.fix_groups.specs.Nodes.{Nodes}
use Rattle.fix_groups.specs.Instances.{IsWhole}
use Rattle.fix_groups.specs.Split.{Answers, fault_of}
use Rattle.fix_groups.specs.declared.misfit.Misfit.{Misfit}
use Rattle.fix_groups.specs.declared.misfit.Misfit.TheVariants.{Count, Order}
use Rattle.fix_groups.proofs.OpenRuns.{none_some}
use Rattle.fix_groups.proofs.Wholes.{right_is_whole}
use Rattle.fix_groups.proofs.WholeIsRight.{whole_is_right}

-- one with a fault is no whole one
pub misfit_not_whole : (root : Shapes) (fs : List Field) (m : Misfit) → HasNoTwice root → first_misfit root (all_tagged fs) ≡ Some m → IsWhole root (all_tagged fs) → ⊥
misfit_not_whole root fs m twice is w = none_some (sym is ∙ whole_is_right root (all_tagged fs) twice w)

pub answers_fault : (root : Shapes) (all fs : List Field) (m : Misfit) → HasNoTwice root → all ≡ fs → Some m ≡ first_misfit root (all_tagged all) → Answers root fs (Err (fault_of m))
answers_fault root all fs (Count c) twice same is = let e : first_misfit root (all_tagged fs) ≡ Some (Count c) = sym (is ∙ ap (λ l. first_misfit root (all_tagged l)) same) in (e, misfit_not_whole root fs (Count c) twice e)
answers_fault root all fs (Order c) twice same is = let e : first_misfit root (all_tagged fs) ≡ Some (Order c) = sym (is ∙ ap (λ l. first_misfit root (all_tagged l)) same) in (e, misfit_not_whole root fs (Order c) twice e)

pub answers_tree : (root : Shapes) (all fs : List Field) (tree : Nodes) → HasNoTwice root → all ≡ fs → None ≡ first_misfit root (all_tagged all) → IsTreeOf root all tree → IsTreeOf root fs tree × IsWhole root (all_tagged fs)
answers_tree root all fs tree twice same is t =
    (subst (λ l. IsTreeOf root l tree) same t, right_is_whole root (all_tagged fs) twice (sym (is ∙ ap (λ l. first_misfit root (all_tagged l)) same)))

-- what a tree of the fields writes are the fields, counts without leading zeros
pub tree_text : (root : Shapes) (fs : List Field) (tree : Nodes) → IsTreeOf root fs tree → fields_text (flat tree) ≡ fields_text (plainly root fs)
tree_text root fs tree t = ap fields_text t.spelled
