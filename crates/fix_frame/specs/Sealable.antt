-- What may be sealed.
use Rattle.std.specs.Prelude.{◌≢◌, ℕ, ◌<◌, List, ◌∷◌, ◌++◌, length, None}
use Rattle.std.specs.List.{AllByRecursion}
use Rattle.fix_base.specs.Fields.{Field, FieldsAfter}
use Rattle.fix_base.specs.Payload.{field}
use Rattle.fix_base.specs.Says.{field_text}
pub use Rattle.fix_frame.specs.declared.sealing.SealFault.TheVariants.{TooLarge}

-- MsgType (35), and the fields of the header and of the rest
abbrev pub message_text : List ℕ → List ℕ → List ℕ → List ℕ
message_text kind header rest = field_text (field 35 kind) ++ header ++ rest

-- a field that may stand after MsgType
pub record IsBehindType (f : Field) : Type 0 where
  pub no_begin : f.tag ≢ 8
  pub no_length : f.tag ≢ 9
  pub no_sum : f.tag ≢ 10
  pub no_type : f.tag ≢ 35

-- the MsgType is not empty, and it, the header and the rest are together a list of fields
pub record IsSealable (kind header rest : List ℕ) : Type 0 where
  pub named : 0 < length kind
  pub fields : List Field
  pub are : FieldsAfter None (message_text kind header rest) (field 35 kind ∷ fields)
  pub each : AllByRecursion IsBehindType fields
