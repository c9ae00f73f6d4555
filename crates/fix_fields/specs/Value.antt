-- What the values of fields say (FIX, "Data Types").
use Rattle.std.specs.Prelude.{◌≡◌, ◌≢◌, ℕ, ◌+◌, ◌^◌, ◌<◌, ◌≤◌, ◌⊎◌, Bool, true, false, List, [], ◌∷◌, ◌++◌, length}
use Rattle.std.specs.Prelude.{codes, ℤ, pos, neg_ℤ}
use Rattle.std.specs.Str.Parse.{digits_value, AllDigits}
use Rattle.jiff_core.specs.Calendar.{IsCivilDate}
use Rattle.fix_base.specs.Times.{two_digits, four_digits, fraction_text, IsFractionLength}

-- digits of a number below 10^15: after leading zeros there are at most 15
pub record IsDigitsOf (number : ℕ) (value : List ℕ) : Type 0 where
  pub digits : AllDigits 10 value
  pub some : 0 < length value
  pub below : digits_value 10 value < 10 ^ 15
  pub says : number ≡ digits_value 10 value

-- an `int`: digits, before which a minus may stand
pub data IsInt (value : List ℕ) (number : ℤ) : Type 0 where
  plain : (size : ℕ) → IsDigitsOf size value → number ≡ pos size → IsInt value number
  minus : (size : ℕ) (digits : List ℕ) → value ≡ 45 ∷ digits → IsDigitsOf size digits → number ≡ neg_ℤ (pos size)
      → IsInt value number

-- a `Boolean`
abbrev pub boolean_text : Bool → List ℕ
boolean_text true = codes "Y"
boolean_text false = codes "N"

-- digits, and among them at most one point, which may stand anywhere: the point passed over, there
-- are at most 15 after leading zeros
pub record IsAmount (value : List ℕ) : Type 0 where
  pub whole : List ℕ
  pub fraction : List ℕ
  pub number : ℕ
  pub digits : IsDigitsOf number (whole ++ fraction)
  pub spelled : (value ≡ whole ++ fraction) ⊎ (value ≡ whole ++ 46 ∷ fraction)

-- a `Price`, `Qty`, `Amt`, `PriceOffset`, `Percentage` or `float`: an amount, before which a minus
-- may stand
pub data IsPrice (value : List ℕ) : Type 0 where
  plus : IsAmount value → IsPrice value
  minus_amount : (amount : List ℕ) → value ≡ 45 ∷ amount → IsAmount amount → IsPrice value

-- a `Length`, `NumInGroup` or `SeqNum`: one to nine digits
pub record IsCount (value : List ℕ) : Type 0 where
  pub digits : AllDigits 10 value
  pub some : 0 < length value
  pub few : length value ≤ 9

-- a `char`: one byte, which is no SOH
pub record IsChar (value : List ℕ) : Type 0 where
  pub byte : ℕ
  pub is : value ≡ byte ∷ []
  pub no_soh : byte ≢ 1

-- a day that exists, as `YYYYMMDD`
pub record IsDate (value : List ℕ) : Type 0 where
  pub year : ℕ
  pub month : ℕ
  pub day : ℕ
  pub exists : IsCivilDate (pos year) month day
  pub spelled : value ≡ four_digits year ++ two_digits month ++ two_digits day

-- a month as `YYYYMM`, and the rest
pub record HasMonth (value rest : List ℕ) : Type 0 where
  pub year : ℕ
  pub month : ℕ
  pub year_below : year < 10000
  pub first : 1 ≤ month
  pub last : month ≤ 12
  pub spelled : value ≡ four_digits year ++ two_digits month ++ rest

-- a `month-year`: a month, a day, or a month and its week `w1` to `w5`
pub data IsMonthYear (value : List ℕ) : Type 0 where
  month : HasMonth value [] → IsMonthYear value
  date : IsDate value → IsMonthYear value
  week : (week : ℕ) → 1 ≤ week → week ≤ 5 → HasMonth value (119 ∷ (48 + week) ∷ []) → IsMonthYear value

-- a `UTCTimeOnly`: `HH:MM:SS`, or that with a point and three, six or nine digits; second 60 is one
pub record IsTimeOfDay (value : List ℕ) : Type 0 where
  pub hour : ℕ
  pub minute : ℕ
  pub second : ℕ
  pub fraction : List ℕ
  pub hour_below : hour < 24
  pub minute_below : minute < 60
  pub second_most : second ≤ 60
  pub digits : AllDigits 10 fraction
  pub many : IsFractionLength (length fraction)
  pub spelled : value ≡ two_digits hour ++ 58 ∷ [] ++ two_digits minute ++ 58 ∷ [] ++ two_digits second
      ++ fraction_text fraction

-- a `day-of-month`: 1 to 31 in one or two digits
pub record IsDayOfMonth (value : List ℕ) : Type 0 where
  pub number : ℕ
  pub digits : IsDigitsOf number value
  pub few : length value ≤ 2
  pub first : 1 ≤ number
  pub last : number ≤ 31
