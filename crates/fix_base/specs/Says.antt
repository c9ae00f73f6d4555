-- What the frames in the bytes of a connection say.
use Rattle.std.specs.Prelude.{◌≡◌, ℕ, ◌+◌, ◌==◌, ◌&&◌, if◌then◌else◌, nat_lt, nat_le, bytes_eq, codes, List, []}
use Rattle.std.specs.Prelude.{◌∷◌, ◌++◌, length, Bool, true, false, Option, Some, None}
use Rattle.std.specs.List.{list_any}
use Rattle.std.specs.Fmt.{decimal}
use Rattle.std.specs.Str.{all_ascii_digits}
use Rattle.std.specs.Str.Parse.{digits_value}
use Rattle.fix_base.specs.Tags.{is_session_tag}
use Rattle.fix_base.specs.Fields.{Field, FieldsAfter}
use Rattle.fix_base.specs.Shape.{Parts, HasShape}
use Rattle.fix_base.specs.Stream.{UnreadBytes, Item, TakesAll, frames}
use Rattle.fix_base.specs.Message as message
use Rattle.fix_base.specs.Message.{Message}

-- the value of the first field with this tag
abbrev pub value_of : ℕ → List Field → Option (List ℕ)
value_of tag [] = None
value_of tag (f ∷ fs) = if f.tag == tag then Some f.value else value_of tag fs

-- how many fields have this tag
abbrev pub times_of : ℕ → List Field → ℕ
times_of tag [] = 0
times_of tag (f ∷ fs) = if f.tag == tag then 1 + times_of tag fs else times_of tag fs

-- the field's bytes
abbrev pub field_text : Field → List ℕ
field_text f = decimal f.tag ++ 61 ∷ f.value ++ 1 ∷ []

abbrev pub fields_text : List Field → List ℕ
fields_text [] = []
fields_text (f ∷ fs) = field_text f ++ fields_text fs

-- the body of a message: its fields but for those of the header that the engine writes itself
abbrev pub body_of : List Field → List ℕ
body_of [] = []
body_of (f ∷ fs) = if is_session_tag f.tag then body_of fs else field_text f ++ body_of fs

-- the number of digits, where it lies from `low` to `high`
abbrev pub number_in : ℕ → ℕ → List ℕ → Option ℕ
number_in low high v =
    if all_ascii_digits v &&
    (nat_lt 0 (length v) && (nat_le low (digits_value 10 v) && nat_le (digits_value 10 v) high)) then Some
    (digits_value 10 v)
    else None

-- one to nine digits, from 1 on
abbrev pub seq_num_in : Option (List ℕ) → Option ℕ
seq_num_in None = None
seq_num_in (Some v) = if nat_le (length v) 9 then number_in 1 999999999 v else None

-- the readable MsgSeqNum (34): the tag stands there once
abbrev pub seq_num_of : List Field → Option ℕ
seq_num_of fs = if times_of 34 fs == 1 then seq_num_in (value_of 34 fs) else None

-- NewSeqNo (36) of a SequenceReset: digits, from 1 to 1,000,000,000
abbrev pub new_seq_no_in : Option (List ℕ) → Option ℕ
new_seq_no_in None = None
new_seq_no_in (Some v) = number_in 1 1000000000 v

-- the value is Y
abbrev pub is_yes : Option (List ℕ) → Bool
is_yes None = false
is_yes (Some v) = bytes_eq v (codes "Y")

-- the MsgType (35) of one of the seven administrative messages: Heartbeat, TestRequest, ResendRequest,
-- Reject, SequenceReset, Logout, Logon
abbrev pub is_admin_type : List ℕ → Bool
is_admin_type [] = false
is_admin_type (kind ∷ []) = list_any (λ k. k == kind) (codes "012345A")
is_admin_type (a ∷ b ∷ more) = false

-- what a SequenceReset says: GapFillFlag (123) = Y fills a gap. Without a readable NewSeqNo it says
-- no more than its number
abbrev pub reset_of : ℕ → Bool → Option ℕ → Message
reset_of n filling None = message.Admin n
reset_of n true (Some next) = message.GapFill n next
reset_of n false (Some next) = message.ResetTo n next

abbrev pub message_with : List ℕ → ℕ → List Field → Message
message_with t n fs =
    if bytes_eq t (codes "4") then reset_of n (is_yes (value_of 123 fs)) (new_seq_no_in (value_of 36 fs))
    else (if is_admin_type t then message.Admin n else message.App n (is_yes (value_of 43 fs)) (body_of fs))

abbrev pub message_from : Option (List ℕ) → Option ℕ → List Field → Option Message
message_from None n fs = None
message_from (Some t) None fs = None
message_from (Some t) (Some n) fs = Some (message_with t n fs)

-- what the fields of a frame say, where its MsgSeqNum is readable
abbrev pub message_of : List Field → Option Message
message_of fs = message_from (value_of 35 fs) (seq_num_of fs) fs

-- the fields of the frame's body
pub record HasFields (text : List ℕ) (fields : List Field) : Type 0 where
  pub parts : Parts
  pub shape : HasShape parts text
  pub are : FieldsAfter None parts.body fields

-- the frame says this
pub record Says (text : List ℕ) (x : Message) : Type 0 where
  pub fields : List Field
  pub has : HasFields text fields
  pub says : message_of fields ≡ Some x

-- what these frames say, in order; some may say nothing that counts
pub data SaysAll : List (List ℕ) → List Message → Type 0 where
  none : SaysAll [] []
  says : {text : List ℕ} {x : Message} {texts : List (List ℕ)} {xs : List Message} → Says text x → SaysAll texts xs
      → SaysAll (text ∷ texts) (x ∷ xs)
  silent : {text : List ℕ} {texts : List (List ℕ)} {xs : List Message} → ((x : Message) → Says text x → ⊥)
      → SaysAll texts xs → SaysAll (text ∷ texts) xs

-- the first frames of the bytes say these, in order (a front of the frames: who acts on a frame has
-- read the bytes up to it)
pub record Shows (bytes : List ℕ) (messages : List Message) : Type 0 where
  pub items : List Item
  pub rest : UnreadBytes
  pub takes : TakesAll (record { may_mark = true; bytes = bytes }) items rest
  pub says : SaysAll (frames items) messages

abbrev pub joined : List (List ℕ) → List ℕ
joined [] = []
joined (text ∷ texts) = text ++ joined texts
