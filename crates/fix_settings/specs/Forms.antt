-- The forms of values: which texts they take, what these say, and how they are printed.
use Rattle.std.specs.Prelude.{slice_index, ℕ, ◌+◌, ◌-◌, ◌*◌, ◌/◌, ◌%◌, ◌==◌, ◌&&◌, ◌||◌, nat_lt, nat_le, not}
use Rattle.std.specs.Prelude.{if◌then◌else◌, Bool, true, false, List, [], ◌∷◌, ◌++◌, length, take, codes, bytes_eq}
use Rattle.std.specs.Prelude.{find, decimal, Option, Some, None, option_map}
use Rattle.std.specs.List.{list_all, slice_split, join_by}
use Rattle.std.specs.Str.{str_eq_ignore_ascii_case}
use Rattle.fix_base.specs.declared.identity.Begin.{Begin}
use Rattle.fix_base.specs.declared.identity.Begin.TheVariants.{Fix42, Fix44}
use Rattle.fix_base.specs.Session.{begin_string_of, is_comp_id}
use Rattle.fix_base.specs.Says.{number_in}
use Rattle.fix_base.specs.declared.precision.Precision.{Precision}
use Rattle.fix_base.specs.declared.precision.Precision.TheVariants.{Seconds, Millis, Micros}
use Rattle.fix_settings.specs.declared.form.Form.{Form}
use Rattle.fix_settings.specs.declared.form.Form.TheVariants as form
use Rattle.fix_settings.specs.Lines.{is_blank}

-- what a value says
pub data Value : Type 0 where
  Version : Begin → Value
  Number : ℕ → Value
  Port : ℕ → Value
  Clock : ℕ → Value
  Day : ℕ → Value
  Flag : Bool → Value
  Fine : Precision → Value
  Text : List ℕ → Value
  Types : List (List ℕ) → Value

abbrev pub version_in : List ℕ → Option Begin
version_in text =
    if bytes_eq text (codes "FIX.4.2") then Some Fix42
    else (if bytes_eq text (codes "FIX.4.4") then Some Fix44 else None)

abbrev pub is_digit : ℕ → Bool
is_digit b = nat_le 48 b && nat_le b 57

-- the two digits at a place, as a number up to a greatest one
abbrev pub two_at : ℕ → List ℕ → ℕ
two_at at text = (slice_index text at - 48) * 10 + (slice_index text (at + 1) - 48)

abbrev pub is_two_at : ℕ → ℕ → List ℕ → Bool
is_two_at last at text = is_digit (slice_index text at) &&
    (is_digit (slice_index text (at + 1)) && nat_le (two_at at text) last)

abbrev pub is_clock : List ℕ → Bool
is_clock text =
    length text == 8 && (slice_index text 2 == 58 && (slice_index text 5 == 58
    && (is_two_at 23 0 text && (is_two_at 59 3 text && is_two_at 59 6 text))))

-- HH:MM:SS, as the seconds after midnight
abbrev pub clock_in : List ℕ → Option ℕ
clock_in text = if is_clock text then Some (two_at 0 text * 3600 + two_at 3 text * 60 + two_at 6 text) else None

-- the last two digits of a number
abbrev pub two_text : ℕ → List ℕ
two_text n = (48 + n / 10 % 10) ∷ (48 + n % 10) ∷ []

abbrev pub clock_text : ℕ → List ℕ
clock_text s = two_text (s / 3600) ++ 58 ∷ two_text (s / 60 % 60) ++ 58 ∷ two_text (s % 60)

-- the days of the week, from Monday as 1 to Sunday as 7
abbrev pub day_name : ℕ → List ℕ
day_name day =
    if day == 1 then codes "Monday"
    else (if day == 2 then codes "Tuesday"
    else (if day == 3 then codes "Wednesday"
    else (if day == 4 then codes "Thursday"
    else (if day == 5 then codes "Friday"
    else (if day == 6 then codes "Saturday" else codes "Sunday")))))

-- a day's name, whole or its first three letters, in any case
abbrev pub is_day : List ℕ → ℕ → Bool
is_day text day = str_eq_ignore_ascii_case text (day_name day) || str_eq_ignore_ascii_case text (take 3 (day_name day))

abbrev pub day_in : List ℕ → Option ℕ
day_in text = find (is_day text) (1 ∷ 2 ∷ 3 ∷ 4 ∷ 5 ∷ 6 ∷ 7 ∷ [])

abbrev pub flag_text : Bool → List ℕ
flag_text true = codes "Y"
flag_text false = codes "N"

abbrev pub flag_in : List ℕ → Option Bool
flag_in text = if bytes_eq text (codes "Y") then Some true else (if bytes_eq text (codes "N") then Some false else None)

abbrev pub precision_text : Precision → List ℕ
precision_text Seconds = codes "SECONDS"
precision_text Millis = codes "MILLIS"
precision_text Micros = codes "MICROS"

abbrev pub precision_in : List ℕ → Option Precision
precision_in text =
    if bytes_eq text (codes "SECONDS") then Some Seconds
    else (if bytes_eq text (codes "MILLIS") then Some Millis
    else (if bytes_eq text (codes "MICROS") then Some Micros else None))

-- a type in a list of types: 1 to 8 bytes, none of them a blank
abbrev pub is_type : List ℕ → Bool
is_type text = nat_lt 0 (length text) && (nat_le (length text) 8 && list_all (λ b. not (is_blank b)) text)

-- the types between commas
abbrev pub types_in : List ℕ → Option (List (List ℕ))
types_in text = if list_all is_type (slice_split (λ b. b == 44) text) then Some (slice_split
    (λ b. b == 44) text) else None

-- the text, where it passes
abbrev pub text_if : Bool → List ℕ → Option Value
text_if passes text = if passes then Some (Text text) else None

-- what a text of this form says, or None where it is none
abbrev pub value_in : Form → List ℕ → Option Value
value_in form.Version text = option_map Version (version_in text)
value_in form.CompId text = text_if (is_comp_id text) text
value_in (form.Number low high) text = option_map Number (number_in low high text)
value_in form.Port text = option_map Port (number_in 1 65535 text)
value_in form.Clock text = option_map Clock (clock_in text)
value_in form.Day text = option_map Day (day_in text)
value_in form.Utc text = text_if (bytes_eq text (codes "UTC")) text
value_in form.Rule text = Some (Text text)
value_in form.Flag text = option_map Flag (flag_in text)
value_in form.OnlyN text = if bytes_eq text (codes "N") then Some (Flag false) else None
value_in form.Text text = text_if (nat_lt 0 (length text)) text
value_in form.Precision text = option_map Fine (precision_in text)
value_in form.Types text = option_map Types (types_in text)

-- how a value is printed
abbrev pub value_text : Value → List ℕ
value_text (Version begin) = begin_string_of begin
value_text (Number n) = decimal n
value_text (Port n) = decimal n
value_text (Clock s) = clock_text s
value_text (Day day) = day_name day
value_text (Flag on) = flag_text on
value_text (Fine precision) = precision_text precision
value_text (Text text) = text
value_text (Types types) = join_by (λ t. t) (44 ∷ []) types
