-- A message that a session sends: what is kept of it, and its frame under a number.
use Rattle.std.specs.Prelude.{◌≡◌, ◌≤◌, ◌<◌, ◌+◌, ℕ, List, [], ◌∷◌, length, Bool, true, false, Option, Some, None}
use Rattle.std.specs.Fmt.{decimal}
use Rattle.fix_base.specs.declared.identity.Identity.{Identity}
use Rattle.fix_base.specs.Frame.{HasNoSoh}
use Rattle.fix_base.specs.Fields.{Field, FieldsAfter}
use Rattle.fix_base.specs.Says.{fields_text}
use Rattle.fix_base.specs.Times.{IsTimeTextOf}
use Rattle.fix_base.specs.Sealed.{sealed}
use Rattle.fix_base.specs.declared.entry.Entry.{Entry}
use Rattle.fix_base.specs.declared.entry.Entry.TheVariants.{App}
use Rattle.fix_base.specs.declared.entry.By.TheVariants.{Caller}
use Rattle.fix_base.specs.Payload.{field, HasPayload, LONGEST_BODY}
use Rattle.fix_base.specs.Wrote.{Carries, time_of_entry}
use Rattle.fix_fields.specs.Drafted.{DraftText, draft_body}
use Rattle.fix_frame.specs.Sealable.{message_text}

-- MsgSeqNum (34), SenderCompID (49), SendingTime (52) and TargetCompID (56)
abbrev pub header_fields : Identity → ℕ → List ℕ → List Field
header_fields id n at = field 34 (decimal n) ∷ field 49 id.sender ∷ field 52 at ∷ field 56 id.target ∷ []

-- the header of number n, sent at this time in milliseconds
pub record IsHeaderText (id : Identity) (n time : ℕ) (text : List ℕ) : Type 0 where
  pub at : List ℕ
  pub sent_at : IsTimeTextOf 3 time at
  pub spelled : text ≡ fields_text (header_fields id n at)

-- a message that is to be sent
pub record Outgoing : Type 0 where
  pub entry : Entry  -- what is kept of it
  pub type : List ℕ  -- MsgType (35)
  pub rest : List ℕ  -- the fields after its header
  pub written : Bool  -- its frame goes out when it is kept

abbrev pub outgoing : Entry → List ℕ → List ℕ → Bool → Outgoing
outgoing entry type rest written = record { entry = entry; type = type; rest = rest; written = written }

-- a draft of the application is sent at the time of the last reading, and kept whole
abbrev pub draft_outgoing : ℕ → DraftText → Bool → Outgoing
draft_outgoing time d written = outgoing (App time Caller (draft_body d)) d.kind d.rest written

-- the entry may be kept, it is that of a message with this MsgType and these fields, and these leave room for a header
pub record IsOutgoing (m : Outgoing) : Type 0 where
  pub payload : HasPayload m.entry
  pub named : 0 < length m.type
  pub clear : HasNoSoh m.type
  pub fields : List Field
  pub spelled : m.rest ≡ fields_text fields
  pub are : FieldsAfter None (fields_text fields) fields
  pub carries : Carries m.entry m.type fields
  pub short : length m.type + length m.rest + 4 ≤ LONGEST_BODY

-- its original under this number: SendingTime (52) is the entry's time, in milliseconds
pub record IsFrameOf (id : Identity) (n : ℕ) (m : Outgoing) (text : List ℕ) : Type 0 where
  pub header : List ℕ
  pub heads : IsHeaderText id n (time_of_entry m.entry) header
  pub spelled : text ≡ sealed id.begin (message_text m.type header m.rest)

-- the frame that is staged with it
pub data IsStagedFrame (id : Identity) (n : ℕ) (m : Outgoing) : Option (List ℕ) → Type 0 where
  unwritten : m.written ≡ false → IsStagedFrame id n m None
  framed : (text : List ℕ) → m.written ≡ true → IsFrameOf id n m text → IsStagedFrame id n m (Some text)
