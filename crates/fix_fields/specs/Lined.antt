-- What stands before the first SOH of bytes.
use Rattle.std.specs.Prelude.{◌≡◌, ℕ, List, ◌∷◌, ◌++◌}
use Rattle.fix_base.specs.Frame.{HasNoSoh}

-- a value and its SOH, and the rest
pub record IsLineOf (bytes value rest : List ℕ) : Type 0 where
  pub no_soh : HasNoSoh value
  pub spelled : bytes ≡ value ++ 1 ∷ rest

pub record HasLine (bytes : List ℕ) : Type 0 where
  pub value : List ℕ
  pub rest : List ℕ
  pub is : IsLineOf bytes value rest
