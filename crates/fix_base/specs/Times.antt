-- The text of a time (FIX, "Data Types", `UTCTimestamp`): `YYYYMMDD-HH:MM:SS`, or the same with a
-- point and more digits. A time is a count of microseconds since 1970-01-01 00:00:00 UTC.
use Rattle.std.specs.Prelude.{◌≡◌, ℕ, ◌+◌, ◌-◌, ◌*◌, ◌/◌, ◌%◌, ◌^◌, ◌<◌, ◌≤◌, ◌⊎◌, List, [], ◌∷◌, ◌++◌, length}
use Rattle.std.specs.Prelude.{take, ℤ, pos, ◌+ℤ◌, ◌*ℤ◌}
use Rattle.std.specs.Str.Parse.{digits_value, AllDigits}
use Rattle.jiff_core.specs.Calendar.{IsCivilDate, days_from_civil}
pub use Rattle.fix_base.specs.declared.precision.Precision.{Precision}
pub use Rattle.fix_base.specs.declared.precision.Precision.TheVariants.{Seconds, Millis, Micros}

-- a number below 100, or below 10000, in so many digits
abbrev pub two_digits : ℕ → List ℕ
two_digits n = (48 + n / 10) ∷ (48 + n % 10) ∷ []

abbrev pub four_digits : ℕ → List ℕ
four_digits n = two_digits (n / 100) ++ two_digits (n % 100)

-- what the text of a time says
pub record Moment : Type 0 where
  pub year : ℕ
  pub month : ℕ
  pub day : ℕ
  pub hour : ℕ
  pub minute : ℕ
  pub second : ℕ
  pub fraction : List ℕ  -- the digits after the point

-- a date that exists, and a time of day, which may have a leap second (60)
pub record IsMoment (m : Moment) : Type 0 where
  pub date : IsCivilDate (pos m.year) m.month m.day
  pub hour : m.hour < 24
  pub minute : m.minute < 60
  pub second : m.second ≤ 60
  pub digits : AllDigits 10 m.fraction

-- the point and the digits after it
abbrev pub fraction_text : List ℕ → List ℕ
fraction_text [] = []
fraction_text (d ∷ ds) = 46 ∷ d ∷ ds

abbrev pub moment_text : Moment → List ℕ
moment_text m =
    four_digits m.year ++ two_digits m.month ++ two_digits m.day ++ 45 ∷ []
    ++ two_digits m.hour ++ 58 ∷ [] ++ two_digits m.minute ++ 58 ∷ [] ++ two_digits m.second
    ++ fraction_text m.fraction

-- the microseconds of up to six digits
abbrev pub micros_of : List ℕ → ℕ
micros_of fraction = digits_value 10 fraction * 10 ^ (6 - length fraction)

-- the time of day in seconds; second 60 is the second that follows second 59
abbrev pub second_of_day : Moment → ℕ
second_of_day m = m.hour * 3600 + m.minute * 60 + m.second

-- the time that it says, for up to six digits after the point
abbrev pub time_of : Moment → ℤ
time_of m = (days_from_civil (pos m.year) m.month m.day *ℤ pos 86400 +ℤ pos (second_of_day m)) *ℤ pos 1000000 +ℤ pos
    (micros_of m.fraction)

-- a time cut to so many digits of a second
abbrev pub cut_to : ℕ → ℕ → ℕ
cut_to digits time = time / 10 ^ (6 - digits) * 10 ^ (6 - digits)

-- the text of the time with this many digits after the point; digits beyond are cut off
pub record IsTimeTextOf (digits time : ℕ) (text : List ℕ) : Type 0 where
  pub moment : Moment
  pub is : IsMoment moment
  pub no_leap : moment.second < 60
  pub many : length moment.fraction ≡ digits
  pub spelled : text ≡ moment_text moment
  pub says : time_of moment ≡ pos (cut_to digits time)

-- the precisions in which times are written: whole seconds, milliseconds and microseconds
abbrev pub IsPrecision : ℕ → Type 0
IsPrecision digits = (digits ≡ 0) ⊎ (digits ≡ 3) ⊎ (digits ≡ 6)

-- the text of the time in one of the three precisions
pub record IsTimeText (time : ℕ) (text : List ℕ) : Type 0 where
  pub digits : ℕ
  pub precision : IsPrecision digits
  pub is : IsTimeTextOf digits time text

-- how many digits stand after the point
abbrev pub digits_of_precision : Precision → ℕ
digits_of_precision Seconds = 0
digits_of_precision Millis = 3
digits_of_precision Micros = 6

-- how many digits may stand after the point of a UTCTimestamp
abbrev pub IsFractionLength : ℕ → Type 0
IsFractionLength n = (n ≡ 0) ⊎ (n ≡ 3) ⊎ (n ≡ 6) ⊎ (n ≡ 9)

-- the value is a UTCTimestamp that says this time; digits after the sixth are cut off
pub record IsUtcTimestamp (value : List ℕ) (time : ℤ) : Type 0 where
  pub moment : Moment
  pub is : IsMoment moment
  pub many : IsFractionLength (length moment.fraction)
  pub spelled : value ≡ moment_text moment
  pub says : time ≡ time_of (record moment { fraction = take 6 moment.fraction })
