-- A frame: its shape, its checksum and its fields (FIX, "Standard Header", "Standard Trailer", "Checksum
-- calculation").
use Rattle.std.specs.Prelude.{◌≡◌, ◌≢◌, ℕ, ◌%◌, List, ◌++◌, Option, None, sum}
use Rattle.std.specs.List.{AllByRecursion}
use Rattle.fix_base.specs.Front.{SomeOf}
use Rattle.fix_base.specs.Frame.{IsHead, IsBody, IsTrailer}
use Rattle.fix_base.specs.Fields.{Field, FieldsAfter}

-- what decides whether a Shape is a frame
pub record Parts : Type 0 where
  pub before_sum : List ℕ
  pub body : List ℕ
  pub sum : ℕ

-- head, body and trailer
pub record HasShape (parts : Parts) (text : List ℕ) : Type 0 where
  pub len : ℕ
  pub head : List ℕ
  pub trailer : List ℕ
  pub is_head : IsHead len head
  pub is_body : IsBody len parts.body
  pub is_trailer : IsTrailer parts.sum trailer
  pub front : parts.before_sum ≡ head ++ parts.body
  pub spelled : text ≡ parts.before_sum ++ trailer

abbrev pub IsShape : List ℕ → Type 0
IsShape = SomeOf HasShape

-- no tag of the frame's own
pub record IsBodyField (f : Field) : Type 0 where
  pub no_begin : f.tag ≢ 8
  pub no_length : f.tag ≢ 9
  pub no_sum : f.tag ≢ 10

-- fields after one that speaks of this data
pub record HasFieldsAfter (due : Option (ℕ × ℕ)) (bytes : List ℕ) : Type 0 where
  pub list : List Field
  pub are : FieldsAfter due bytes list
  pub each : AllByRecursion IsBodyField list

abbrev pub HasBodyFields : List ℕ → Type 0
HasBodyFields = HasFieldsAfter None

-- the checksum is right, and the body is a list of fields
pub record IsRight (parts : Parts) : Type 0 where
  pub checksum : parts.sum ≡ sum parts.before_sum % 256
  pub fields : HasBodyFields parts.body

pub record IsFrame (text : List ℕ) : Type 0 where
  pub parts : Parts
  pub shape : HasShape parts text
  pub right : IsRight parts
