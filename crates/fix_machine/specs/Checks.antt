-- The checks of a message after the Logon that don't look at its MsgSeqNum (34), in their order.
use Rattle.std.specs.Prelude.{ℕ, ◌+◌, ◌*◌, if◌then◌else◌, List, Bool, true, false, not, ◌&&◌, Option, Some, None}
use Rattle.std.specs.Prelude.{is_none, codes, bytes_eq, ℤ, pos, ◌+ℤ◌, int_le, int_lt}
use Rattle.fix_base.specs.declared.identity.Identity.{Identity}
use Rattle.fix_fields.specs.Header.{Header}
use Rattle.fix_admin.specs.Values.{fault_of}
use Rattle.fix_admin.specs.declared.say.LogoutText.TheVariants as text
use Rattle.fix_machine.specs.declared.checks.Finding.{Finding}
use Rattle.fix_machine.specs.declared.checks.Finding.TheVariants as found
use Rattle.fix_base.specs.declared.fault.Fault.{Fault}
use Rattle.fix_admin.specs.declared.say.LogoutText.{LogoutText}
use Rattle.fix_machine.specs.declared.event.Refusal.{Refusal}
use Rattle.fix_machine.specs.declared.event.Refusal.TheVariants as refusal
use Rattle.fix_machine.specs.Event.{Inbound, VerdictSeen, App, Admin, Bad}
use Rattle.fix_machine.specs.State.{Options, MachineState}
use Rattle.fix_machine.specs.Answer.{names, wrong_seen}

-- what a check finds: nothing, a message to reject, or one to reject and to close the connection for
pub data FindingSeen : Type 0 where
  Fine : FindingSeen
  Reject : (fault : Fault) → FindingSeen
  RejectAndClose : (fault : Fault) (text : LogoutText) (cause : Refusal) → FindingSeen

abbrev pub finding_seen : Finding → FindingSeen
finding_seen found.Fine = Fine
finding_seen (found.Reject fault) = Reject (wrong_seen fault)
finding_seen (found.RejectAndClose fault text cause) = RejectAndClose (wrong_seen fault) text cause

-- goes on where nothing was found
abbrev pub else_look : FindingSeen → FindingSeen → FindingSeen
else_look Fine next = next
else_look (Reject fault) next = Reject fault
else_look (RejectAndClose fault text cause) next = RejectAndClose fault text cause

-- SenderCompID (49) is the counterparty and TargetCompID (56) this end: absent is reason 1, wrong
-- reason 9 and the end of the connection
abbrev pub wrong_comp_id : ℕ → FindingSeen
wrong_comp_id tag = RejectAndClose (fault_of 9 tag) text.CompId refusal.CompId

abbrev pub comp_ids : Identity → Header → FindingSeen
comp_ids id h =
    if is_none h.sender then Reject (fault_of 1 49)
    else (if is_none h.target then Reject (fault_of 1 56)
    else (if not (names h.sender id.target) then wrong_comp_id 49
    else (if not (names h.target id.sender) then wrong_comp_id 56
    else Fine)))

-- SendingTime (52) is at most so many seconds from the last reading of the clock
abbrev pub is_timely : Option ℕ → ℕ → ℤ → Bool
is_timely None reading time = true
is_timely (Some seconds) reading time =
    int_le time (pos (reading + 1000000 * seconds)) && int_le (pos reading) (time +ℤ pos (1000000 * seconds))

-- SendingTime (52): absent is reason 1, no UTCTimestamp reason 6, too far off reason 10 and the end of
-- the connection
abbrev pub wrong_time : ℕ → FindingSeen
wrong_time tag = RejectAndClose (fault_of 10 tag) text.SendingTime refusal.SendingTime

abbrev pub sending_time : Option ℕ → ℕ → Option (List ℕ) → Option ℤ → FindingSeen
sending_time latency reading None time = Reject (fault_of 1 52)
sending_time latency reading (Some value) None = Reject (fault_of 6 52)
sending_time latency reading (Some value) (Some time) = if is_timely latency reading time then Fine else wrong_time 52

-- OrigSendingTime (122) of a message that is sent again: absent is reason 1, no UTCTimestamp reason 6,
-- later than SendingTime (52) reason 10 and the end of the connection
abbrev pub is_later : ℤ → Option ℤ → Bool
is_later time None = false
is_later time (Some sent) = int_lt sent time

abbrev pub orig_sending_time : Option (List ℕ) → Option ℤ → Option ℤ → FindingSeen
orig_sending_time None time sent = Reject (fault_of 1 122)
orig_sending_time (Some value) None sent = Reject (fault_of 6 122)
orig_sending_time (Some value) (Some time) sent = if is_later time sent then wrong_time 122 else Fine

-- PossDupFlag (43): absent or N says an original, Y a message that is sent again, and anything else
-- is reason 6
abbrev pub poss_dup : Inbound → Option (List ℕ) → FindingSeen
poss_dup i None = Fine
poss_dup i (Some value) =
    if bytes_eq value (codes "N") then Fine
    else (if bytes_eq value (codes "Y") then orig_sending_time i.header.orig_sending_time i.first_sent i.sent
    else Reject (fault_of 6 43))

-- the fault that reading or validation found
abbrev pub content : VerdictSeen → FindingSeen
content App = Fine
content (Admin admin) = Fine
content (Bad fault) = Reject fault

-- ---- CompIDs, then times, then content

abbrev pub marks : Inbound → FindingSeen
marks i = else_look (poss_dup i i.header.poss_dup) (content i.verdict)

abbrev pub times : Options → MachineState → Inbound → FindingSeen
times o s i = else_look (sending_time o.latency s.reading i.header.sending_time i.sent) (marks i)

abbrev pub checked : Options → MachineState → Inbound → FindingSeen
checked o s i = else_look (comp_ids o.identity i.header) (times o s i)
