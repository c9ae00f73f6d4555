-- The parts of a UTCTimestamp, at the front of bytes.
use Rattle.std.specs.Prelude.{◌≡◌, ℕ, ◌+◌, ◌*◌, ◌<◌, ◌≤◌, List, [], ◌∷◌, ◌++◌, length, take, ℤ, pos}
use Rattle.std.specs.Str.Parse.{AllDigits}
use Rattle.jiff_core.specs.Calendar.{IsCivilDate, days_from_civil}
use Rattle.fix_base.specs.Times.{two_digits, four_digits, fraction_text, micros_of, IsFractionLength}

-- a number in two digits, and the rest
pub record HasTwo (number : ℕ) (bytes rest : List ℕ) : Type 0 where
  pub below : number < 100
  pub spelled : bytes ≡ two_digits number ++ rest

-- `YYYYMMDD` of a day that exists, by its number from 1970-01-01, and the rest
pub record HasDay (number : ℤ) (bytes rest : List ℕ) : Type 0 where
  pub year : ℕ
  pub month : ℕ
  pub day : ℕ
  pub is : IsCivilDate (pos year) month day
  pub spelled : bytes ≡ four_digits year ++ two_digits month ++ two_digits day ++ rest
  pub says : number ≡ days_from_civil (pos year) month day

-- `HH:MM:SS`, by the second of the day, and the rest
pub record HasClock (number : ℕ) (bytes rest : List ℕ) : Type 0 where
  pub hour : ℕ
  pub minute : ℕ
  pub second : ℕ
  pub hour_below : hour < 24
  pub minute_below : minute < 60
  pub second_most : second ≤ 60
  pub spelled : bytes ≡ two_digits hour ++ 58 ∷ [] ++ two_digits minute ++ 58 ∷ [] ++ two_digits second ++ rest
  pub says : number ≡ hour * 3600 + minute * 60 + second

-- the point and its digits, by the microseconds that they say
pub record HasFraction (number : ℕ) (bytes : List ℕ) : Type 0 where
  pub fraction : List ℕ
  pub digits : AllDigits 10 fraction
  pub many : IsFractionLength (length fraction)
  pub spelled : bytes ≡ fraction_text fraction
  pub says : number ≡ micros_of (take 6 fraction)
