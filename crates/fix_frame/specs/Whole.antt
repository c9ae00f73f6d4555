-- What is read of a whole stream.
use Rattle.std.specs.Prelude.{◌≡◌, ℕ, List, ◌++◌}
use Rattle.fix_base.specs.Stream.{UnreadBytes, Item, HasNoItem, TakesAll, frames}

-- items up to a place that has none, and their frames at the end of what was given
pub record GivesAll (a b : UnreadBytes) (old new : List (List ℕ)) : Type 0 where
  pub items : List Item
  pub take : TakesAll a items b
  pub end : HasNoItem b
  pub given : new ≡ old ++ frames items
