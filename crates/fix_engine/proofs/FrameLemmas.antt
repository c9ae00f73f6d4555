-- A frame has a list of fields.
use Rattle.std.proofs.Common.{ℕ, List}
use Rattle.fix_base.specs.Fields.{Field}
use Rattle.fix_base.specs.Shape.{IsFrame}
use Rattle.fix_base.specs.Says.{HasFields}

abbrev pub fields_in : {text : List ℕ} → IsFrame text → List Field
fields_in f = f.right.fields.list

pub frame_has : {text : List ℕ} (f : IsFrame text) → HasFields text (fields_in f)
frame_has f = record { parts = f.parts; shape = f.shape; are = f.right.fields.are }
