use Rattle.std.proofs.Common.{ℕ, List, subst}
use Rattle.std.specs.Prelude.{IsPermutation}
use Rattle.std.proofs.lemmas.List.Sorted.{IsNonDecreasingBy-from_sort}
use Rattle.fix_validate.proofs.again.index_of.Goals as goal

pub returns : goal.returns
returns c = λ _. record {
  all = subst (λ (l : List ℕ). IsPermutation l c.sort_unstable.new.self.items) c.in_ok-index.ensures c.sort_unstable.ensures.permutation;
  sorted = IsNonDecreasingBy-from_sort (λ x. x) c.sort_unstable.new.self.items c.sort_unstable.ensures.sorted;
}
