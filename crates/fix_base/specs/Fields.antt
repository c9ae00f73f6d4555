-- A list of fields: each is a tag, `=`, a value and SOH (FIX, "Message Format", "Field Delimiter").
use Rattle.std.specs.Prelude.{◌≡◌, ℕ, ◌≤◌, Bool, if◌then◌else◌, ◌&&◌, ◌==◌, nat_lt, nat_le, List, [], ◌∷◌, ◌++◌}
use Rattle.std.specs.Prelude.{length, Option, Some, None, option_and_then, MatchOption, MatchBool}
use Rattle.std.specs.Fmt.{decimal}
use Rattle.std.specs.Str.{all_ascii_digits}
use Rattle.std.specs.Str.Parse.{digits_value}
use Rattle.fix_base.specs.Frame.{HasNoSoh}
use Rattle.fix_base.specs.Tags.{data_tag}

pub record Field : Type 0 where
  pub tag : ℕ
  pub value : List ℕ

-- one to seven digits
abbrev pub is_data_length : List ℕ → Bool
is_data_length value = all_ascii_digits value && (nat_lt 0 (length value) && nat_le (length value) 7)

-- the tag and the length of the data that a field speaks of
abbrev pub data_after : Field → Option (ℕ × ℕ)
data_after f = option_and_then
    (λ tag. if is_data_length f.value then Some (tag, digits_value 10 f.value) else None) (data_tag f.tag)

-- a value: bytes other than SOH, and just so many bytes where the field before it speaks of this tag's data
abbrev pub IsValue : Option (ℕ × ℕ) → Field → Type 0
IsValue due f = MatchOption due (HasNoSoh f.value)
    (λ d. MatchBool (f.tag == d.0) (length f.value ≡ d.1) (HasNoSoh f.value))

-- a tag and its `=`
pub record IsTag (tag : ℕ) (text : List ℕ) : Type 0 where
  pub first : 1 ≤ tag
  pub last : tag ≤ 999999999
  pub spelled : text ≡ decimal tag ++ 61 ∷ []

-- a field, after one that speaks of this data
pub record IsField (due : Option (ℕ × ℕ)) (f : Field) (text : List ℕ) : Type 0 where
  pub first : 1 ≤ f.tag
  pub last : f.tag ≤ 999999999
  pub value : IsValue due f
  pub spelled : text ≡ decimal f.tag ++ 61 ∷ f.value ++ 1 ∷ []

-- the bytes are these fields
abbrev pub FieldsAfter : Option (ℕ × ℕ) → List ℕ → List Field → Type 0
FieldsAfter due bytes [] = bytes ≡ []
FieldsAfter due bytes (f ∷ fs) = (text rest : List ℕ) × IsField due f text × (bytes ≡ text ++ rest)
    × FieldsAfter (data_after f) rest fs
