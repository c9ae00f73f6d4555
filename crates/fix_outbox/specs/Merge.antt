-- How the lists of several senders come together in one.
use Rattle.std.specs.Prelude.{◌≡◌, List, [], ◌∷◌, ◌++◌}
use Rattle.std.specs.List.{AllByRecursion}

-- the list is a merge of these lists: each of them stands in it whole and in its order, and nothing else
-- stands there
pub data Merge {A : Type 0} : List (List A) → List A → Type 0 where
  -- all lists are empty
  all_empty : (ls : List (List A)) → AllByRecursion (λ (l : List A). l ≡ []) ls → Merge ls []
  -- the first item is the first of one of the lists
  from_one : (before after : List (List A)) (x : A) (rest more : List A) → Merge (before ++ rest ∷ after) more
      → Merge (before ++ (x ∷ rest) ∷ after) (x ∷ more)
