-- Parts of values, as the readers meet them.
use Rattle.std.specs.Prelude.{◌≡◌, ◌≢◌, ℕ, ◌+◌, ◌^◌, ◌<◌, ◌≤◌, List, [], ◌∷◌, EachIndex, slice_index}
use Rattle.std.specs.Str.Parse.{digits_value_after, AllDigits}
use Rattle.fix_fields.specs.Value.{IsDigitsOf}

-- digits that follow those of a number, and the number below 10^15 that all of them write
pub record IsDigitsAfter (front number : ℕ) (value : List ℕ) : Type 0 where
  pub digits : AllDigits 10 value
  pub below : number < 10 ^ 15
  pub says : number ≡ digits_value_after 10 front value

-- digits that are read
pub record AreDigits (value : List ℕ) : Type 0 where
  pub number : ℕ
  pub are : IsDigitsOf number value

-- a week of a month: a digit from 1 to 5
pub record IsWeek (text : List ℕ) : Type 0 where
  pub number : ℕ
  pub first : 1 ≤ number
  pub last : number ≤ 5
  pub is : text ≡ (48 + number) ∷ []

-- what stands after a month and is no day: nothing, or a week
pub data IsNoDay (rest : List ℕ) : Type 0 where
  none : rest ≡ [] → IsNoDay rest
  week : (week : List ℕ) → rest ≡ 119 ∷ week → IsWeek week → IsNoDay rest

-- no byte is a point
abbrev pub HasNoPoint : List ℕ → Type 0
HasNoPoint text = EachIndex text (λ k. slice_index text k ≢ 46)
