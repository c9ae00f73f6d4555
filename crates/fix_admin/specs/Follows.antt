-- Bytes that may stand after the header of a frame, so that the whole may be sealed.
use Rattle.std.specs.Prelude.{ℕ, ◌+◌, ◌≤◌, List, ◌++◌, length, Option, Some, None}
use Rattle.std.specs.List.{AllByRecursion}
use Rattle.fix_base.specs.Fields.{Field, FieldsAfter}
use Rattle.fix_base.specs.Frame.{HasNoSoh}
use Rattle.fix_base.specs.Payload.{IsEntryField}
use Rattle.fix_admin.specs.Say.{SaySeen, Heartbeat, TestRequest, ResendRequest, Reject, GapFill, Logout, Logon}

-- fields, none of which is BeginString (8), BodyLength (9), CheckSum (10), MsgType (35) or one of the header
-- that the engine writes, and so many bytes at the most
pub record MayFollow (longest : ℕ) (bytes : List ℕ) : Type 0 where
  pub fields : List Field
  pub are : FieldsAfter None bytes fields
  pub each : AllByRecursion IsEntryField fields
  pub short : length bytes ≤ longest

-- a text that may be absent is a value: it has no SOH
abbrev pub IsClear : Option (List ℕ) → Type 0
IsClear None = Unit {0}
IsClear (Some text) = HasNoSoh text

-- what is given back of a message that was read is a value: TestReqID (112) of a Heartbeat, and the MsgType (35)
-- that a Reject names
abbrev pub GivesBackValues : SaySeen → Type 0
GivesBackValues (Heartbeat id) = IsClear id
GivesBackValues TestRequest = Unit {0}
GivesBackValues (ResendRequest from to) = Unit {0}
GivesBackValues (Reject about type fault) = HasNoSoh type
GivesBackValues (GapFill next) = Unit {0}
GivesBackValues (Logout text) = Unit {0}
GivesBackValues (Logon heart reset version) = Unit {0}

-- a front of a message, from MsgType (35) on, with the bytes after it: together a list of fields, those of the
-- front first
pub record IsWhole (longest : ℕ) (front bytes : List ℕ) (fs : List Field) : Type 0 where
  pub more : List Field
  pub are : FieldsAfter None (front ++ bytes) (fs ++ more)
  pub each : AllByRecursion IsEntryField more
  pub short : length (front ++ bytes) ≤ length front + longest
