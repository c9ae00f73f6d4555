-- What a session says, and the fields after the header that say it, in their order.
use Rattle.std.specs.Prelude.{ℕ, ◌==◌, nat_lt, if◌then◌else◌, Bool, true, false, List, [], ◌∷◌, ◌++◌, take}
use Rattle.std.specs.Prelude.{codes, Option, Some, None, option_map}
use Rattle.std.specs.Fmt.{decimal}
use Rattle.fix_base.specs.declared.identity.Begin.{Begin}
use Rattle.fix_base.specs.declared.identity.Begin.TheVariants.{Fix42, Fix44}
use Rattle.fix_base.specs.Fields.{Field}
use Rattle.fix_base.specs.Payload.{field}
use Rattle.fix_admin.specs.declared.say.Say.{Say}
use Rattle.fix_admin.specs.declared.say.Say.TheVariants as said
use Rattle.fix_admin.specs.declared.say.LogoutText.{LogoutText}
use Rattle.fix_admin.specs.declared.say.LogoutText.TheVariants.{Empty, TooLow, BeginString, NoNumber, CompId}
use Rattle.fix_admin.specs.declared.say.LogoutText.TheVariants.{SendingTime, OutOfWindow, ResetFlag}
use Rattle.fix_admin.specs.Values.{Fault}

-- what is said
pub data SaySeen : Type 0 where
  Heartbeat : (id : Option (List ℕ)) → SaySeen
  TestRequest : SaySeen
  ResendRequest : (from to : ℕ) → SaySeen
  Reject : (about : ℕ) (type : List ℕ) (fault : Fault) → SaySeen
  GapFill : (next : ℕ) → SaySeen
  Logout : (text : LogoutText) → SaySeen
  Logon : (heart : ℕ) (reset : Bool) (version : Option ℕ) → SaySeen

abbrev pub say_seen : Say → SaySeen
say_seen (said.Heartbeat id) = Heartbeat (option_map (λ v. v.now) id)
say_seen said.TestRequest = TestRequest
say_seen (said.ResendRequest from to) = ResendRequest from to
say_seen (said.Reject about kind fault) = Reject about kind.now fault
say_seen (said.GapFill next) = GapFill next
say_seen (said.Logout text) = Logout text
say_seen (said.Logon heart reset version) = Logon heart reset version

-- MsgType (35)
abbrev pub type_of : SaySeen → ℕ
type_of (Heartbeat id) = 48
type_of TestRequest = 49
type_of (ResendRequest from to) = 50
type_of (Reject about type fault) = 51
type_of (GapFill next) = 52
type_of (Logout text) = 53
type_of (Logon heart reset version) = 65

-- ---- texts

-- the text of a SessionRejectReason (373); none for a reason that is never given
abbrev pub reason_text : ℕ → List ℕ
reason_text reason =
    if reason == 0 then codes "Invalid tag number"
    else (if reason == 1 then codes "Required tag missing"
    else (if reason == 2 then codes "Tag not defined for this message type"
    else (if reason == 4 then codes "Tag specified without a value"
    else (if reason == 5 then codes "Value is incorrect (out of range) for this tag"
    else (if reason == 6 then codes "Incorrect data format for value"
    else (if reason == 9 then codes "CompID problem"
    else (if reason == 10 then codes "SendingTime accuracy problem"
    else (if reason == 11 then codes "Invalid MsgType"
    else (if reason == 13 then codes "Tag appears more than once"
    else (if reason == 14 then codes "Tag specified out of required order"
    else (if reason == 15 then codes "Repeating group fields out of order"
    else (if reason == 16 then codes "Incorrect NumInGroup count"
    else []))))))))))))

-- the text of a Logout
abbrev pub logout_text : LogoutText → List ℕ
logout_text Empty = []
logout_text (TooLow expected received) =
    codes "MsgSeqNum too low, expecting " ++ decimal expected ++ codes " but received " ++ decimal received
logout_text BeginString = codes "Incorrect BeginString"
logout_text NoNumber = codes "MsgSeqNum missing"
logout_text CompId = codes "CompID problem"
logout_text SendingTime = codes "SendingTime accuracy problem"
logout_text OutOfWindow = codes "Session time is over"
logout_text ResetFlag = codes "ResetSeqNumFlag not supported"

-- ---- fields that stand there only where they apply

-- TestReqID (112), which is given back: at most its first 1,048,000 bytes
abbrev pub id_fields : Option (List ℕ) → List Field
id_fields None = []
id_fields (Some id) = field 112 (take 1048000 id) ∷ []

-- RefTagID (371)
abbrev pub tag_fields : Option ℕ → List Field
tag_fields None = []
tag_fields (Some tag) = field 371 (decimal tag) ∷ []

-- the reasons up to 11 are those of FIX 4.2
abbrev pub is_named : Begin → ℕ → Bool
is_named Fix42 reason = nat_lt reason 12
is_named Fix44 reason = true

-- SessionRejectReason (373), but for one above 11 in a session of FIX 4.2
abbrev pub reason_fields : Begin → ℕ → List Field
reason_fields begin reason = if is_named begin reason then field 373 (decimal reason) ∷ [] else []

-- Text (58)
abbrev pub text_fields : List ℕ → List Field
text_fields [] = []
text_fields (b ∷ bs) = field 58 (b ∷ bs) ∷ []

-- ResetSeqNumFlag (141)
abbrev pub reset_fields : Bool → List Field
reset_fields false = []
reset_fields true = field 141 (codes "Y") ∷ []

-- DefaultApplVerID (1137)
abbrev pub version_fields : Option ℕ → List Field
version_fields None = []
version_fields (Some version) = field 1137 (decimal version) ∷ []

-- ---- the table: the fields after the header

-- of a MsgType (35) that is named, at most the first eight bytes
abbrev pub ref_type : List ℕ → Field
ref_type type = field 372 (take 8 type)

abbrev pub logon_fields : ℕ → Bool → Option ℕ → List Field
logon_fields heart reset version = field 98 (codes "0") ∷ field 108 (decimal heart) ∷ reset_fields reset
    ++ version_fields version

abbrev pub fields_of : Begin → SaySeen → List Field
fields_of begin (Heartbeat id) = id_fields id
fields_of begin TestRequest = field 112 (codes "TEST") ∷ []
fields_of begin (ResendRequest from to) = field 7 (decimal from) ∷ field 16 (decimal to) ∷ []
fields_of begin (Reject about type fault) =
    field 45 (decimal about) ∷ tag_fields fault.tag
    ++ ref_type type ∷ reason_fields begin fault.reason
    ++ text_fields (reason_text fault.reason)
fields_of begin (GapFill next) = field 36 (decimal next) ∷ field 123 (codes "Y") ∷ []
fields_of begin (Logout text) = text_fields (logout_text text)
fields_of begin (Logon heart reset version) = logon_fields heart reset version

-- BusinessMessageReject (j)
abbrev pub business_fields : ℕ → List ℕ → ℕ → List ℕ → List Field
business_fields about type reason text = field 45 (decimal about) ∷ ref_type type ∷ field 380
    (decimal reason) ∷ text_fields text
