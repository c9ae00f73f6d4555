-- The fixed places of a frame.
use Rattle.std.specs.Prelude.{◌≡◌, ◌≢◌, ℕ, ◌-◌, ◌<◌, ◌≤◌, List, [], ◌∷◌, ◌++◌, length, EachIndex, slice_index, codes}
use Rattle.std.specs.Str.Parse.{digits_value, AllDigits}
use Rattle.fix_base.specs.Front.{◌▹◌}

-- this text alone
abbrev pub IsText : List ℕ → List ℕ → Type 0
IsText wanted text = text ≡ wanted

-- so many bytes
abbrev pub IsLong : ℕ → List ℕ → Type 0
IsLong n text = length text ≡ n

-- no byte is an SOH
abbrev pub HasNoSoh : List ℕ → Type 0
HasNoSoh text = EachIndex text (λ k. slice_index text k ≢ 1)

-- a value with no SOH, and its SOH
pub record IsLine (P : List ℕ → Type 0) (text : List ℕ) : Type 0 where
  pub value : List ℕ
  pub no_soh : HasNoSoh value
  pub is : P value
  pub spelled : text ≡ value ++ 1 ∷ []

-- what may stand between `8=FIX` and its SOH
abbrev pub IsVersion : List ℕ → Type 0
IsVersion value = length value ≤ 13

-- digits of a BodyLength
pub record IsLengthOf (n : ℕ) (value : List ℕ) : Type 0 where
  pub digits : AllDigits 10 value
  pub few : length value ≤ 7
  pub some : 0 < length value
  pub number : digits_value 10 value ≡ n
  pub low : 5 ≤ n
  pub high : n ≤ 1048576

-- three digits
pub record IsSumOf (n : ℕ) (value : List ℕ) : Type 0 where
  pub digits : AllDigits 10 value
  pub three : length value ≡ 3
  pub number : digits_value 10 value ≡ n

-- `8=FIX..|9=n|`
abbrev pub IsHead : ℕ → List ℕ → Type 0
IsHead n = IsText (codes "8=FIX") ▹ IsLine IsVersion ▹ IsText (codes "9=") ▹ IsLine (IsLengthOf n)

-- n bytes, `35=..|`
abbrev pub IsBody : ℕ → List ℕ → Type 0
IsBody n = IsText (codes "35=") ▹ IsLong (n - 4) ▹ IsText (1 ∷ [])

-- `10=..|`
abbrev pub IsTrailer : ℕ → List ℕ → Type 0
IsTrailer sum = IsText (codes "10=") ▹ IsLine (IsSumOf sum)
