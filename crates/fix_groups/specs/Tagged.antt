-- What groups look at in a field: its tag, and the number that it says where it counts instances.
use Rattle.std.specs.Prelude.{ℕ, ◌&&◌, nat_lt, nat_le, if◌then◌else◌, List, [], ◌∷◌, length, Option, Some, None}
use Rattle.std.specs.Str.{all_ascii_digits}
use Rattle.std.specs.Str.Parse.{digits_value}
use Rattle.fix_base.specs.Fields.{Field}

pub record Tagged : Type 0 where
  pub tag : ℕ
  pub count : Option ℕ

-- the number that a NumInGroup field says: one to nine digits
abbrev pub count_in : List ℕ → Option ℕ
count_in v = if all_ascii_digits v && (nat_lt 0 (length v) && nat_le (length v) 9) then Some
    (digits_value 10 v) else None

abbrev pub tagged : Field → Tagged
tagged f = record { tag = f.tag; count = count_in f.value }

abbrev pub all_tagged : List Field → List Tagged
all_tagged [] = []
all_tagged (f ∷ fs) = tagged f ∷ all_tagged fs
