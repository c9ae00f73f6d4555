-- Which texts are values of a kind: the data types of FIX 4.4, a row each.
use Rattle.std.specs.Prelude.{◌≡◌, ◌≢◌, ℕ, ℤ, Bool, List, []}
use Rattle.fix_base.specs.Times.{IsUtcTimestamp}
use Rattle.fix_fields.specs.declared.kind.ValueKind.{ValueKind}
use Rattle.fix_fields.specs.declared.kind.ValueKind.TheVariants as kind
use Rattle.fix_fields.specs.Value.{IsInt, boolean_text, IsPrice, IsCount, IsChar, IsDate, IsMonthYear, IsTimeOfDay}
use Rattle.fix_fields.specs.Value.{IsDayOfMonth}

abbrev pub IsValueOf : ValueKind → List ℕ → Type 0
IsValueOf kind.Int value = (number : ℤ) × IsInt value number
IsValueOf kind.Length value = IsCount value
IsValueOf kind.NumInGroup value = IsCount value
IsValueOf kind.SeqNum value = IsCount value
IsValueOf kind.Price value = IsPrice value
IsValueOf kind.Qty value = IsPrice value
IsValueOf kind.Amt value = IsPrice value
IsValueOf kind.PriceOffset value = IsPrice value
IsValueOf kind.Percentage value = IsPrice value
IsValueOf kind.Float value = IsPrice value
IsValueOf kind.Char value = IsChar value
IsValueOf kind.Boolean value = (yes : Bool) × (value ≡ boolean_text yes)
IsValueOf kind.UtcTimestamp value = (time : ℤ) × IsUtcTimestamp value time
IsValueOf kind.UtcTimeOnly value = IsTimeOfDay value
IsValueOf kind.UtcDateOnly value = IsDate value
IsValueOf kind.LocalMktDate value = IsDate value
IsValueOf kind.MonthYear value = IsMonthYear value
IsValueOf kind.DayOfMonth value = IsDayOfMonth value
IsValueOf kind.String value = value ≢ []
IsValueOf kind.Currency value = value ≢ []
IsValueOf kind.Exchange value = value ≢ []
IsValueOf kind.Country value = value ≢ []
IsValueOf kind.Data value = value ≢ []
IsValueOf kind.MultipleValueString value = value ≢ []
