-- What a draft is.
use Rattle.std.specs.Prelude.{◌≡◌, ℕ, ◌≤◌, List}
use Rattle.std.specs.List.{AllByRecursion}
use Rattle.fix_base.specs.Fields.{Field}
use Rattle.fix_base.specs.Says.{fields_text}
use Rattle.fix_fields.specs.Drafts.{MayBeDraft, body_with}
use Rattle.fix_fields.specs.declared.draft_fields.GivenField.{GivenField}

-- MsgType (35), and the bytes of the other fields
pub record DraftText : Type 0 where
  pub kind : List ℕ
  pub rest : List ℕ

-- its body
abbrev pub draft_body : DraftText → List ℕ
draft_body d = body_with d.kind d.rest

-- a tag that a field can have
pub record HasTag (f : Field) : Type 0 where
  pub first : 1 ≤ f.tag
  pub last : f.tag ≤ 999999999

abbrev pub AreTagged : List Field → Type 0
AreTagged fs = AllByRecursion HasTag fs

-- it was made of fields of which none is refused
pub record IsDraft (d : DraftText) : Type 0 where
  pub fields : List Field
  pub tags : AreTagged fields
  pub may : MayBeDraft d.kind fields
  pub spelled : d.rest ≡ fields_text fields

-- the field that was given
abbrev pub given : GivenField → Field
given f = record { tag = f.tag; value = f.value }
