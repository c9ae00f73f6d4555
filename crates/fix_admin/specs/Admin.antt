-- The session messages that are read, and the first fault of one: the tags of each type in their
-- order, with their bounds.
use Rattle.std.specs.Prelude.{◌≡◌, ℕ, ◌&&◌, nat_lt, if◌then◌else◌, Bool, true, List, bytes_eq, codes, Option, Some}
use Rattle.std.specs.Prelude.{option_map, Result, Ok, Err}
use Rattle.fix_base.specs.Fields.{Field}
use Rattle.fix_base.specs.Says.{value_of, HasFields, is_admin_type}
use Rattle.fix_admin.specs.declared.admin.Admin.{Admin}
use Rattle.fix_admin.specs.declared.admin.Admin.TheVariants as read
use Rattle.fix_admin.specs.Values.{Fault, fault_of, and_then, need, allow, number_at, flag_at, version_in}

-- what a session message says
pub data AdminSeen : Type 0 where
  Heartbeat : (id : Option (List ℕ)) → AdminSeen
  TestRequest : (id : List ℕ) → AdminSeen
  ResendRequest : (from to : ℕ) → AdminSeen
  Reject : (about : ℕ) → AdminSeen
  SequenceReset : (next : ℕ) (gap : Bool) → AdminSeen
  Logout : AdminSeen
  Logon : (heart : ℕ) (reset : Bool) (version : Option ℕ) → AdminSeen

abbrev pub admin_seen : Admin → AdminSeen
admin_seen (read.Heartbeat id) = Heartbeat (option_map (λ v. v.now) id)
admin_seen (read.TestRequest id) = TestRequest id.now
admin_seen (read.ResendRequest from to) = ResendRequest from to
admin_seen (read.Reject about) = Reject about
admin_seen (read.SequenceReset next gap) = SequenceReset next gap
admin_seen read.Logout = Logout
admin_seen (read.Logon heart reset version) = Logon heart reset version

abbrev pub answer_seen : Result Admin Fault → Result AdminSeen Fault
answer_seen (Ok admin) = Ok (admin_seen admin)
answer_seen (Err fault) = Err fault

-- ---- the table

-- Heartbeat (0): TestReqID (112) may stand there
abbrev pub heartbeat_of : List Field → Result AdminSeen Fault
heartbeat_of fs = and_then (allow 112 (value_of 112 fs)) (λ id. Ok (Heartbeat id))

-- TestRequest (1): TestReqID (112)
abbrev pub test_request_of : List Field → Result AdminSeen Fault
test_request_of fs = and_then (need 112 (value_of 112 fs)) (λ id. Ok (TestRequest id))

-- ResendRequest (2): BeginSeqNo (7), and EndSeqNo (16), which is 0, for all that follow, or no less
abbrev pub range_of : ℕ → ℕ → Result AdminSeen Fault
range_of from to = if nat_lt 0 to && nat_lt to from then Err (fault_of 5 16) else Ok (ResendRequest from to)

abbrev pub resend_request_of : List Field → Result AdminSeen Fault
resend_request_of fs = and_then (number_at 7 1 999999999 fs)
    (λ from. and_then (number_at 16 0 999999999 fs) (λ to. range_of from to))

-- Reject (3): RefSeqNum (45)
abbrev pub reject_of : List Field → Result AdminSeen Fault
reject_of fs = and_then (number_at 45 0 999999999 fs) (λ about. Ok (Reject about))

-- SequenceReset (4): NewSeqNo (36), and GapFillFlag (123), which may be absent
abbrev pub sequence_reset_of : List Field → Result AdminSeen Fault
sequence_reset_of fs = and_then (number_at 36 1 1000000000 fs)
    (λ next. and_then (flag_at 123 fs) (λ gap. Ok (SequenceReset next gap)))

-- Logon (A): EncryptMethod (98), which is 0, HeartBtInt (108) of at most a day, and ResetSeqNumFlag
-- (141), which may be absent. DefaultApplVerID (1137) is never a fault
abbrev pub with_heart_of : List Field → Result AdminSeen Fault
with_heart_of fs =
    and_then (number_at 108 0 86400 fs) (λ heart.
    and_then (flag_at 141 fs) (λ reset. Ok (Logon heart reset (version_in (value_of 1137 fs)))))

abbrev pub logon_of : List Field → Result AdminSeen Fault
logon_of fs = and_then (number_at 98 0 0 fs) (λ method. with_heart_of fs)

-- by MsgType (35); Logout (5) asks for no tag, and the type that is left is that of a Logon
abbrev pub admin_of : List ℕ → List Field → Result AdminSeen Fault
admin_of type fs =
    if bytes_eq type (codes "0") then heartbeat_of fs
    else (if bytes_eq type (codes "1") then test_request_of fs
    else (if bytes_eq type (codes "2") then resend_request_of fs
    else (if bytes_eq type (codes "3") then reject_of fs
    else (if bytes_eq type (codes "4") then sequence_reset_of fs
    else (if bytes_eq type (codes "5") then Ok Logout
    else logon_of fs)))))

-- the frame of a session message
pub record IsAdminFrame (frame : List ℕ) : Type 0 where
  pub type : List ℕ
  pub fields : List Field
  pub has : HasFields frame fields
  pub is : value_of 35 fields ≡ Some type
  pub admin : is_admin_type type ≡ true
