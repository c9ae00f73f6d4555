-- Which fields an application may send, and how those that it may not are refused.
use Rattle.std.specs.Prelude.{◌≡◌, ℕ, ◌<◌, ◌≤◌, Bool, false, not, ◌&&◌, ◌==◌, if◌then◌else◌, List, [], ◌∷◌, ◌++◌}
use Rattle.std.specs.Prelude.{length, codes, Option, Some, None}
use Rattle.std.specs.List.{list_any}
use Rattle.fix_base.specs.Frame.{HasNoSoh}
use Rattle.fix_base.specs.Tags.{is_data_tag, is_header_tag, is_engine_tag}
use Rattle.fix_base.specs.Fields.{Field}
use Rattle.fix_base.specs.Says.{fields_text}
use Rattle.fix_base.specs.Payload.{IsAppType, LONGEST_BODY}
use Rattle.fix_fields.specs.Faulty.{due_behind}
use Rattle.fix_fields.specs.declared.judging.DraftFault.{DraftFault}
use Rattle.fix_fields.specs.declared.judging.DraftFault.TheVariants as fault

-- a MsgType (35) of an application message: one to eight bytes with no SOH
pub record IsDraftKind (kind : List ℕ) : Type 0 where
  pub some : 0 < length kind
  pub few : length kind ≤ 8
  pub no_soh : HasNoSoh kind
  pub app : IsAppType kind

-- a field that isn't one of the header stands among these
abbrev pub has_body_field : List Field → Bool
has_body_field fs = list_any (λ f. not (is_header_tag f.tag)) fs

abbrev pub has_soh : List ℕ → Bool
has_soh value = list_any (λ b. b == 1) value

-- the field is the data that is due, in its tag and its length
abbrev pub is_due : Option (ℕ × ℕ) → Field → Bool
is_due None f = false
is_due (Some due) f = f.tag == due.0 && length f.value == due.1

-- why a field is refused: the first row that applies. `due` is the data that the field right before
-- it announces, and `late` says that a field which isn't of the header stands before it
abbrev pub refusal_of : Option (ℕ × ℕ) → Bool → Field → Option DraftFault
refusal_of due late f =
    if is_engine_tag f.tag then Some (fault.ReservedTag f.tag)
    else (if is_header_tag f.tag && late then Some (fault.HeaderOrder f.tag)
    else (if length f.value == 0 then Some (fault.EmptyValue f.tag)
    else (if is_data_tag f.tag then (if is_due due f then None else Some (fault.LengthMismatch f.tag))
    else (if has_soh f.value then Some (fault.SohInValue f.tag) else None))))

-- why a field is refused after these
abbrev pub refusal : List Field → Field → Option DraftFault
refusal before f = refusal_of (due_behind None before) (has_body_field before) f

-- none of the fields is refused, each after these and those before it
abbrev pub AreAccepted : List Field → List Field → Type 0
AreAccepted before [] = Unit {0}
AreAccepted before (f ∷ fs) = (refusal before f ≡ None) × AreAccepted (before ++ f ∷ []) fs

-- the first field that is refused, and why
pub record IsRefused (fs : List Field) (why : DraftFault) : Type 0 where
  pub before : List Field
  pub field : Field
  pub behind : List Field
  pub spelled : fs ≡ before ++ field ∷ behind
  pub accepted : AreAccepted [] before
  pub refused : refusal before field ≡ Some why

-- the body of a message: MsgType (35), and the other fields
abbrev pub body_with : List ℕ → List ℕ → List ℕ
body_with kind rest = codes "35=" ++ kind ++ 1 ∷ rest

-- a draft of these may be made
pub record MayBeDraft (kind : List ℕ) (fs : List Field) : Type 0 where
  pub named : IsDraftKind kind
  pub accepted : AreAccepted [] fs
  pub fits : length (body_with kind (fields_text fs)) ≤ LONGEST_BODY

-- the first refusal: of the kind, of a field, of the whole
abbrev pub IsFirstFault : List ℕ → List Field → DraftFault → Type 0
IsFirstFault kind fs fault.BadKind = IsDraftKind kind → ⊥
IsFirstFault kind fs (fault.ReservedTag tag) = IsDraftKind kind × IsRefused fs (fault.ReservedTag tag)
IsFirstFault kind fs (fault.HeaderOrder tag) = IsDraftKind kind × IsRefused fs (fault.HeaderOrder tag)
IsFirstFault kind fs (fault.EmptyValue tag) = IsDraftKind kind × IsRefused fs (fault.EmptyValue tag)
IsFirstFault kind fs (fault.SohInValue tag) = IsDraftKind kind × IsRefused fs (fault.SohInValue tag)
IsFirstFault kind fs (fault.LengthMismatch tag) = IsDraftKind kind × IsRefused fs (fault.LengthMismatch tag)
IsFirstFault kind fs fault.TooLarge = IsDraftKind kind × AreAccepted [] fs
    × (LONGEST_BODY < length (body_with kind (fields_text fs)))
IsFirstFault kind fs fault.OutOfMemory = Unit {0}

-- why a text isn't written into so many bytes
abbrev pub IsRoomFault : ℕ → List ℕ → DraftFault → Type 0
IsRoomFault room text fault.BadKind = ⊥
IsRoomFault room text (fault.ReservedTag tag) = ⊥
IsRoomFault room text (fault.HeaderOrder tag) = ⊥
IsRoomFault room text (fault.EmptyValue tag) = ⊥
IsRoomFault room text (fault.SohInValue tag) = ⊥
IsRoomFault room text (fault.LengthMismatch tag) = ⊥
IsRoomFault room text fault.TooLarge = room < length text
IsRoomFault room text fault.OutOfMemory = Unit {0}
