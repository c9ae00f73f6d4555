-- Which bytes may be kept as the body of an application message.
use Rattle.std.specs.Prelude.{◌≡◌, ◌≢◌, ℕ, List, [], Option}
use Rattle.std.specs.List.{AllByRecursion}
use Rattle.fix_base.specs.Fields.{Field, FieldsAfter}
use Rattle.fix_base.specs.Payload.{IsEntryField, IsAppType, IsBodyOf}

-- the bytes are MsgType (35), which is neither empty nor administrative, and fields that may stand after it
pub record IsEntryBody (body : List ℕ) : Type 0 where
  pub type : List ℕ
  pub rest : List Field
  pub named : type ≢ []
  pub is : IsBodyOf body type rest

-- the bytes are fields that may stand after MsgType, after one that announces this data
pub record HasEntryFields (due : Option (ℕ × ℕ)) (bytes : List ℕ) : Type 0 where
  pub list : List Field
  pub are : FieldsAfter due bytes list
  pub each : AllByRecursion IsEntryField list

-- a MsgType of an application message
pub record IsTypeField (f : Field) : Type 0 where
  pub tag : f.tag ≡ 35
  pub some : f.value ≢ []
  pub app : IsAppType f.value
