-- The session messages that an answer sends, as messages that are staged.
use Rattle.std.specs.Prelude.{◌≡◌, ◌<◌, ◌^◌, ℕ, [], ◌∷◌, true, None}
use Rattle.fix_base.specs.declared.identity.Begin.{Begin}
use Rattle.fix_base.specs.declared.entry.Entry.TheVariants.{Admin}
use Rattle.fix_base.specs.Frame.{HasNoSoh}
use Rattle.fix_base.specs.Says.{fields_text}
use Rattle.fix_base.specs.Wrote.{IsRequestRange}
use Rattle.fix_admin.specs.Say.{SaySeen, Heartbeat, TestRequest, ResendRequest, Reject, GapFill, Logout, Logon}
use Rattle.fix_admin.specs.Say.{type_of, fields_of}
use Rattle.fix_admin.specs.Follows.{IsClear}
use Rattle.fix_stage.specs.Outgoing.{Outgoing, outgoing}

-- the MsgSeqNum (34) that its entry is about: of a Reject that of the message which it rejects, else 0
abbrev pub about_of : SaySeen → ℕ
about_of (Heartbeat id) = 0
about_of TestRequest = 0
about_of (ResendRequest from to) = 0
about_of (Reject about type fault) = about
about_of (GapFill next) = 0
about_of (Logout text) = 0
about_of (Logon heart reset version) = 0

-- it is sent at the time of the last reading, and written
abbrev pub said_outgoing : Begin → ℕ → SaySeen → Outgoing
said_outgoing begin time say =
    outgoing (Admin time (type_of say) (about_of say)) (type_of say ∷ []) (fields_text (fields_of begin say)) true

-- A message that a session may say under a number of its own. What is given back of a message that was read is a
-- value, and a range that is asked for is one. A gap fill takes no number of its own. A Logon names no application
-- version: no definition of what an end writes has that field yet
abbrev pub IsSayable : SaySeen → Type 0
IsSayable (Heartbeat id) = IsClear id
IsSayable TestRequest = Unit {0}
IsSayable (ResendRequest from to) = IsRequestRange from to
IsSayable (Reject about type fault) = HasNoSoh type × (about < 2 ^ 32)
IsSayable (GapFill next) = ⊥
IsSayable (Logout text) = Unit {0}
IsSayable (Logon heart reset version) = version ≡ None
