-- Which entries a message store may keep, and which ends keep their messages.
use Rattle.std.specs.Prelude.{◌≡◌, ◌≢◌, ℕ, ◌+◌, ◌<◌, ◌≤◌, ◌^◌, ◌==◌, codes, IsTrue, List, [], ◌∷◌, length, Bool}
use Rattle.std.specs.Prelude.{false, None}
use Rattle.std.specs.List.{AllByRecursion, list_any}
use Rattle.fix_base.specs.Lists.{Among}
use Rattle.fix_base.specs.Tags.{is_session_tag}
use Rattle.fix_base.specs.Fields.{Field, FieldsAfter}
use Rattle.fix_base.specs.Says.{fields_text, is_admin_type}
use Rattle.fix_base.specs.End.{Entry, App, Admin, Record, Push, Expect, Many, Withhold, Reset, ResetAsk, Confirm}
use Rattle.fix_base.specs.End.{End, IsAppAt, ONCE}

-- the last microsecond of 2099: a clock reading beyond it counts as this one
abbrev pub LAST_TIME : ℕ
LAST_TIME = 4102444799999999

-- the longest body of an application message
abbrev pub LONGEST_BODY : ℕ
LONGEST_BODY = 1048064

abbrev pub field : ℕ → List ℕ → Field
field tag value = record { tag = tag; value = value }

-- a field that may stand in a body after its MsgType
pub record IsEntryField (f : Field) : Type 0 where
  pub no_begin : f.tag ≢ 8
  pub no_length : f.tag ≢ 9
  pub no_sum : f.tag ≢ 10
  pub no_type : f.tag ≢ 35
  pub no_header : is_session_tag f.tag ≡ false

-- the MsgType of an application message: none of an administrative one
pub record IsAppType (type : List ℕ) : Type 0 where
  pub no_admin : is_admin_type type ≡ false

-- the body of an application message, as its MsgType and its other fields
pub record IsBodyOf (body type : List ℕ) (rest : List Field) : Type 0 where
  pub spelled : body ≡ fields_text (field 35 type ∷ rest)
  pub fields : FieldsAfter None body (field 35 type ∷ rest)
  pub app : IsAppType type
  pub each : AllByRecursion IsEntryField rest

-- an application message that may be kept
pub record IsAppPayload (time : ℕ) (body : List ℕ) : Type 0 where
  pub time_fits : time ≤ LAST_TIME
  pub short : length body ≤ LONGEST_BODY
  pub type : List ℕ
  pub rest : List Field
  pub named : type ≢ []
  pub is : IsBodyOf body type rest

-- Heartbeat, TestRequest, ResendRequest, Reject, Logout, Logon, and an application message that is sent once
abbrev pub is_admin_kind : ℕ → Bool
is_admin_kind kind = list_any (λ k. k == kind) (codes "01235AN")

pub record IsAdminPayload (time kind about : ℕ) : Type 0 where
  pub time_fits : time ≤ LAST_TIME
  pub kind_known : IsTrue (is_admin_kind kind)
  pub about_fits : about < 2 ^ 32

-- an entry that may be kept
abbrev pub HasPayload : Entry → Type 0
HasPayload (App time by body) = IsAppPayload time body
HasPayload (Admin time kind about) = IsAdminPayload time kind about

-- how many bytes an entry's payload takes in a store's file
abbrev pub payload_size : Entry → ℕ
payload_size (App time by body) = length body + 9
payload_size (Admin time kind about) = 14

-- how many those of several take, each with its length in four bytes
abbrev pub payloads_size : List Entry → ℕ
payloads_size [] = 0
payloads_size (e ∷ es) = 4 + payload_size e + payloads_size es

-- the longest payload of a record
abbrev pub LONGEST_PAYLOAD : ℕ
LONGEST_PAYLOAD = 1114112

-- several entries that may be kept in one record, with the number that is expected then or 0
pub record IsManyPayload (pushes : List Entry) (expect : ℕ) : Type 0 where
  pub each : AllByRecursion HasPayload pushes
  pub some : 1 ≤ length pushes
  pub few : length pushes ≤ 64
  -- one entry alone with nothing to expect is no such record
  pub two : expect ≡ 0 → 2 ≤ length pushes
  pub number_fits : expect ≤ 1000000000
  pub short : 9 + payloads_size pushes ≤ LONGEST_PAYLOAD

-- a record that may be kept
abbrev pub IsKeepable : Record → Type 0
IsKeepable (Push entry) = HasPayload entry
IsKeepable (Expect number) = (1 ≤ number) × (number ≤ 1000000000)
IsKeepable (Many pushes number) = IsManyPayload pushes number
IsKeepable (Withhold number) = (1 ≤ number) × (number ≤ 999999999)
IsKeepable (Reset time) = time ≤ LAST_TIME
IsKeepable (ResetAsk time) = time ≤ LAST_TIME
IsKeepable Confirm = Unit {0}

-- a record that may be kept in a store of this end: a number that is withheld is one of an App entry
abbrev pub IsKeepableAt : End → Record → Type 0
IsKeepableAt e (Push entry) = HasPayload entry
IsKeepableAt e (Expect number) = IsKeepable (Expect number)
IsKeepableAt e (Many pushes number) = IsManyPayload pushes number
IsKeepableAt e (Withhold number) = (body : List ℕ) × IsAppAt e.out number body
IsKeepableAt e (Reset time) = time ≤ LAST_TIME
IsKeepableAt e (ResetAsk time) = time ≤ LAST_TIME
IsKeepableAt e Confirm = Unit {0}

-- how many bytes a record takes in a store's file: a gate, its length in four bytes, and what it says
abbrev pub entry_size : Entry → ℕ
entry_size entry = payload_size entry + 5

abbrev pub record_size : Record → ℕ
record_size (Push entry) = entry_size entry
record_size (Expect number) = 10
record_size (Many pushes number) = 14 + payloads_size pushes
record_size (Withhold number) = 10
record_size (Reset time) = 14
record_size (ResetAsk time) = 14
record_size Confirm = 10

-- the entry is no application message that is sent once
abbrev pub IsSentAgain : Entry → Type 0
IsSentAgain (App time by body) = Unit {0}
IsSentAgain (Admin time kind about) = kind ≢ ONCE

-- an entry that may be kept, and sent again
pub record IsPersistentEntry (entry : Entry) : Type 0 where
  pub payload : HasPayload entry
  pub kept : IsSentAgain entry

-- an end that keeps all its application messages to be sent again
pub record IsPersistent (e : End) : Type 0 where
  pub each : (entry : Entry) → Among entry e.out → IsPersistentEntry entry
