-- What an inbound message presents to a session.
use Rattle.std.specs.Prelude.{◌≡◌, ◌⊎◌, ℕ, ◌≤◌, List, Option, Some, None, IfSome, Bool, true, false, codes, ℤ, pos}
use Rattle.fix_base.specs.Fields.{Field}
use Rattle.fix_base.specs.Says.{value_of, HasFields}
use Rattle.fix_base.specs.Times.{IsUtcTimestamp}
use Rattle.fix_fields.specs.Header.{Header, HasBegin, header_of_fields}
use Rattle.fix_fields.specs.Value.{IsInt}

pub record InboundSeen : Type 0 where
  pub header : Header
  pub sent : Option ℤ  -- SendingTime (52), where it is a UTCTimestamp
  pub heart : Option ℕ  -- HeartBtInt (108), where the fields are those of a Logon that can be taken

-- the value that has P, if there is one; and there is no other
pub record IsOnly {A : Type 0} (P : A → Type 0) (found : Option A) : Type 0 where
  pub known : IfSome found P
  pub each : (x : A) → P x → found ≡ Some x

-- the time that a value says, where it says one
abbrev pub IsSent : Option (List ℕ) → Option ℤ → Type 0
IsSent None sent = sent ≡ None
IsSent (Some value) sent = IsOnly (IsUtcTimestamp value) sent

-- the first field with this tag is an int of this value
pub record HasInt (tag : ℕ) (fields : List Field) (number : ℤ) : Type 0 where
  pub value : List ℕ
  pub there : value_of tag fields ≡ Some value
  pub int : IsInt value number

-- ResetSeqNumFlag (141) is absent or N
abbrev pub IsWithoutReset : List Field → Type 0
IsWithoutReset fields = (value_of 141 fields ≡ None) ⊎ (value_of 141 fields ≡ Some (codes "N"))

abbrev pub KeepsNumbers : List Field → Bool → Type 0
KeepsNumbers fields true = IsWithoutReset fields
KeepsNumbers fields false = IsWithoutReset fields → ⊥

-- the fields of a Logon without encryption (98=0), where ResetSeqNumFlag (141) is absent or N
pub record IsPlainLogon (fields : List Field) : Type 0 where
  pub type : value_of 35 fields ≡ Some (codes "A")
  pub encrypt_method : HasInt 98 fields (pos 0)
  pub no_reset : IsWithoutReset fields

-- the fields of a Logon that can be taken: its HeartBtInt (108) is from 0 to 86,400
pub record IsLogon (fields : List Field) (heart : ℕ) : Type 0 where
  pub plain : IsPlainLogon fields
  pub heart_bt_int : HasInt 108 fields (pos heart)
  pub at_most_a_day : heart ≤ 86400

-- the frame presents this
pub record IsInbound (frame : List ℕ) (i : InboundSeen) : Type 0 where
  pub fields : List Field
  pub has : HasFields frame fields
  pub begins : HasBegin frame i.header.begin
  pub header : i.header ≡ header_of_fields i.header.begin fields
  pub sent : IsSent i.header.sending_time i.sent
  pub heart : IsOnly (IsLogon fields) i.heart
