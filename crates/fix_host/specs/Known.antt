-- A counterparty is known by the first frame of its connection.
use Rattle.std.specs.Prelude.{◌≡◌, ℕ, ◌<◌, true, false, Bool, ◌&&◌, bytes_eq, List, length, Option, Some, None}
use Rattle.std.specs.List.{IsFirstMatchOrLen}
use Rattle.fix_base.specs.Stream.{UnreadBytes}
use Rattle.fix_base.specs.Fields.{Field}
use Rattle.fix_base.specs.Says.{HasFields}
use Rattle.fix_base.specs.Session.{begin_string_of}
use Rattle.fix_base.specs.declared.identity.Identity.{Identity}
use Rattle.fix_fields.specs.Header.{Header, HasBegin, header_of_fields}
use Rattle.fix_frame.specs.Given.{GivesFrame, GivesNone}
use Rattle.fix_host.specs.declared.known.Greeted.{Greeted}
use Rattle.fix_host.specs.declared.known.Greeted.TheVariants as greeted

-- a connection's bytes, from its start
abbrev pub stream_of : List ℕ → UnreadBytes
stream_of bytes = record { may_mark = true; bytes = bytes }

-- the first frame of these bytes
pub record HasFirstFrame (bytes frame : List ℕ) : Type 0 where
  pub rest : UnreadBytes
  pub gives : GivesFrame (stream_of bytes) rest frame

-- there is no whole frame among these bytes
pub record HasNoFrame (bytes : List ℕ) : Type 0 where
  pub rest : UnreadBytes
  pub gives : GivesNone (stream_of bytes) rest

-- what a frame's header says
pub record HasHeader (frame : List ℕ) (header : Header) : Type 0 where
  pub begin : List ℕ
  pub fields : List Field
  pub has_begin : HasBegin frame begin
  pub has_fields : HasFields frame fields
  pub is : header ≡ header_of_fields begin fields

-- the value is there, and is this text
abbrev pub is_value : Option (List ℕ) → List ℕ → Bool
is_value None text = false
is_value (Some value) text = bytes_eq value text

-- BeginString (8) is the session's, SenderCompID (49) is its counterparty, and TargetCompID (56) is its own end
abbrev pub is_for : Header → Identity → Bool
is_for header id = bytes_eq header.begin (begin_string_of id.begin) && (is_value header.sender id.target && is_value
    header.target id.sender)

-- the first of the sessions that the header is for, or that it is for none
pub data Recognises (known : List Identity) (header : Header) : Greeted → Type 0 where
  one : {index : ℕ} → index < length known → IsFirstMatchOrLen (is_for header) known index → Recognises known header
      (greeted.Known index)
  none : IsFirstMatchOrLen (is_for header) known (length known) → Recognises known header greeted.Unknown

-- the answer of a frame
pub record Names (known : List Identity) (frame : List ℕ) (answer : Greeted) : Type 0 where
  pub header : Header
  pub has : HasHeader frame header
  pub recognises : Recognises known header answer
