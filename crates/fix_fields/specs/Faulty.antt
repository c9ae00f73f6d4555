-- Lists of fields, and where bytes are none.
use Rattle.std.specs.Prelude.{◌≡◌, ℕ, ◌<◌, List, [], ◌∷◌, length, take, drop, Option, None, MatchOption}
use Rattle.fix_base.specs.Front.{Begins}
use Rattle.fix_base.specs.Fields.{Field, IsField, FieldsAfter, data_after}
use Rattle.fix_fields.specs.declared.field.FieldRef.{FieldRef}
use Rattle.fix_fields.specs.Lent.{field_of}

-- the bytes are a list of fields
pub record IsListed (bytes : List ℕ) : Type 0 where
  pub list : List Field
  pub are : FieldsAfter None bytes list

-- the data that the last of the fields speaks of; with no field, that which is due before them
abbrev pub due_behind : Option (ℕ × ℕ) → List Field → Option (ℕ × ℕ)
due_behind due [] = due
due_behind due (f ∷ fs) = due_behind (data_after f) fs

-- the first piece that is no field begins here: fields stand before it, and none stands there
pub record IsFaultAt (bytes : List ℕ) (place : ℕ) : Type 0 where
  pub inside : place < length bytes
  pub before : List Field
  pub are : FieldsAfter None (take place bytes) before
  pub none : (f : Field) (rest : List ℕ) → Begins (IsField (due_behind None before) f) (drop place bytes) rest → ⊥

-- the bytes that are not read yet, and the data that the field before them speaks of
pub record FieldListSeen : Type 0 where
  pub due : Option (ℕ × ℕ)
  pub bytes : List ℕ

-- these fields are left
abbrev pub AreLeft : FieldListSeen → List Field → Type 0
AreLeft u fs = FieldsAfter u.due u.bytes fs

-- of the fields that are left the first is given, and the others are left; at None there was none
abbrev pub TakesField : FieldListSeen → Option FieldRef → FieldListSeen → Type 0
TakesField u r v = (fs : List Field) → AreLeft u fs
    → MatchOption r (fs ≡ []) (λ x. (left : List Field) × (fs ≡ field_of x ∷ left) × AreLeft v left)
