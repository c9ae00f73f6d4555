-- A message after the Logon, in the phases Up and LogoutSent. The steps are tried in order.
use Rattle.std.specs.Prelude.{ℕ, ◌+◌, nat_lt, nat_le, if◌then◌else◌, List, [], ◌∷◌, ◌++◌, Bool, true, false, not}
use Rattle.std.specs.Prelude.{◌&&◌, ◌||◌, Option, Some, None, is_none, codes}
use Rattle.fix_base.specs.declared.fault.Fault.{Fault}
use Rattle.fix_admin.specs.Values.{fault_of}
use Rattle.fix_admin.specs.Admin as admin
use Rattle.fix_admin.specs.Admin.{AdminSeen}
use Rattle.fix_admin.specs.Say.{Heartbeat, Logout}
use Rattle.fix_admin.specs.declared.say.LogoutText.TheVariants as text
use Rattle.fix_admin.specs.declared.say.LogoutText.{LogoutText}
use Rattle.fix_machine.specs.declared.state.Phase.{Phase}
use Rattle.fix_machine.specs.declared.state.Phase.TheVariants.{Down, AwaitLogon, Up, LogoutSent}
use Rattle.fix_machine.specs.declared.event.Refusal.{Refusal}
use Rattle.fix_machine.specs.declared.event.Refusal.TheVariants as refusal
use Rattle.fix_machine.specs.declared.event.Why.TheVariants.{LoggedOut, Refused}
use Rattle.fix_machine.specs.Event.{Inbound, VerdictSeen, App, Admin, Bad, StepSeen, Send, Serve, Hand, Stash}
use Rattle.fix_machine.specs.Event.{Expect, Close}
use Rattle.fix_machine.specs.State.{Options, MachineState, sent, expecting, counted, closed}
use Rattle.fix_machine.specs.Answer.{Answered, answer, names, is_of_session, number_or_0, type_in, silent}
use Rattle.fix_machine.specs.Answer.{refuse_with, reject, ask_step, asked}
use Rattle.fix_machine.specs.Checks as found
use Rattle.fix_machine.specs.Checks.{FindingSeen, checked}

-- ---- 1. and 2. BeginString (8), and a readable MsgSeqNum (34): a Logout (5) and the end of the connection

-- ---- 3. SequenceReset (4) without GapFillFlag (123): looked at whatever its number, and never counted

abbrev pub is_reset : Inbound → Bool
is_reset i = names i.header.type (codes "4") && not i.gap

-- NewSeqNo (36)
abbrev pub new_seq_no_of : AdminSeen → ℕ
new_seq_no_of (admin.Heartbeat id) = 0
new_seq_no_of (admin.TestRequest id) = 0
new_seq_no_of (admin.ResendRequest from to) = 0
new_seq_no_of (admin.Reject about) = 0
new_seq_no_of (admin.SequenceReset next gap) = next
new_seq_no_of admin.Logout = 0
new_seq_no_of (admin.Logon heart reset version) = 0

abbrev pub new_seq_no_in : VerdictSeen → ℕ
new_seq_no_in App = 0
new_seq_no_in (Admin admin) = new_seq_no_of admin
new_seq_no_in (Bad fault) = 0

-- it may not go back
abbrev pub reset_to : ℕ → ℕ → Inbound → MachineState → Answered
reset_to next n i s =
    if nat_le s.expected next then answer (Expect next ∷ []) (expecting next s)
    else answer (reject n (type_in i.header) (fault_of 5 36) ∷ []) (sent s)

abbrev pub reset_by : FindingSeen → ℕ → Inbound → MachineState → Answered
reset_by found.Fine n i s = reset_to (new_seq_no_in i.verdict) n i s
reset_by (found.Reject fault) n i s = answer (reject n (type_in i.header) fault ∷ []) (sent s)
reset_by (found.RejectAndClose fault text cause) n i s =
    answer (reject n (type_in i.header) fault ∷ Send (Logout text) ∷ Close (Refused n cause) ∷ [])
    (closed (sent (sent s)))

-- ---- 4. MsgSeqNum (34) above the expected one: ResendRequest (2) and Logout (5) are served at once,
-- others wait; and the gap is asked for, once

abbrev pub is_early : Inbound → Bool
is_early i = names i.header.type (codes "2") || names i.header.type (codes "5")

-- the gap is asked for where none is asked for yet
abbrev pub then_ask : Options → ℕ → List StepSeen → MachineState → Answered
then_ask o n steps s =
    if is_none s.resend_requested then answer (steps ++ ask_step o n s ∷ []) (asked o n s)
    else answer steps s

-- the Logout is answered, where it isn't itself the answer, and the connection closed
abbrev pub logout_steps : Phase → ℕ → List StepSeen
logout_steps Down n = Close (LoggedOut n) ∷ []
logout_steps AwaitLogon n = Close (LoggedOut n) ∷ []
logout_steps Up n = Send (Logout text.Empty) ∷ Close (LoggedOut n) ∷ []
logout_steps LogoutSent n = Close (LoggedOut n) ∷ []

abbrev pub logged_out : Phase → MachineState → MachineState
logged_out Down s = closed s
logged_out AwaitLogon s = closed s
logged_out Up s = closed (sent s)
logged_out LogoutSent s = closed s

abbrev pub logged_out_answer : ℕ → MachineState → Answered
logged_out_answer n s = answer (logout_steps s.phase n) (logged_out s.phase s)

abbrev pub served_early : AdminSeen → Options → ℕ → MachineState → Answered
served_early (admin.Heartbeat id) o n s = then_ask o n [] s
served_early (admin.TestRequest id) o n s = then_ask o n [] s
served_early (admin.ResendRequest from to) o n s = then_ask o n (Serve from to ∷ []) s
served_early (admin.Reject about) o n s = then_ask o n [] s
served_early (admin.SequenceReset next gap) o n s = then_ask o n [] s
served_early admin.Logout o n s = logged_out_answer n s
served_early (admin.Logon heart reset version) o n s = then_ask o n [] s

abbrev pub early_of : VerdictSeen → Options → ℕ → MachineState → Answered
early_of App o n s = then_ask o n [] s
early_of (Admin admin) o n s = served_early admin o n s
early_of (Bad fault) o n s = then_ask o n [] s

-- one with a fault is dropped
abbrev pub early_by : FindingSeen → Options → ℕ → Inbound → MachineState → Answered
early_by found.Fine o n i s = early_of i.verdict o n s
early_by (found.Reject fault) o n i s = then_ask o n [] s
early_by (found.RejectAndClose fault text cause) o n i s = then_ask o n [] s

abbrev pub too_high : Options → ℕ → Inbound → MachineState → Answered
too_high o n i s =
    if is_early i then early_by (checked o s i) o n i s
    else (if i.full then then_ask o n [] s
    else then_ask o n (Stash ∷ []) s)

-- ---- 5. MsgSeqNum (34) below the expected one: a message that is sent again is passed over

abbrev pub too_low : ℕ → Inbound → MachineState → Answered
too_low n i s =
    if names i.header.poss_dup (codes "Y") then silent s
    else refuse_with (text.TooLow s.expected n) n refusal.TooLow s

-- ---- 6. to 9. the checks: a Reject (3) and a count, and at a wrong CompID or time the end

abbrev pub rejected : Fault → ℕ → Inbound → MachineState → Answered
rejected fault n i s = answer (reject n (type_in i.header) fault ∷ Expect (n + 1) ∷ []) (counted n (sent s))

abbrev pub rejected_and_closed : Fault → LogoutText → Refusal → ℕ → Inbound → MachineState → Answered
rejected_and_closed fault text cause n i s =
    answer (reject n (type_in i.header) fault ∷ Expect (n + 1) ∷ Send (Logout text) ∷ Close (Refused n cause) ∷ [])
    (closed (sent (counted n (sent s))))

-- ---- 10. by type

abbrev pub count : ℕ → MachineState → Answered
count n s = answer (Expect (n + 1) ∷ []) (counted n s)

-- a SequenceReset with GapFillFlag (123) may not go back
abbrev pub filled : ℕ → ℕ → Inbound → MachineState → Answered
filled next n i s = if nat_lt n next then answer (Expect next ∷ []) (expecting next s) else rejected
    (fault_of 5 36) n i s

-- a Logon in the middle of a connection may not reset
abbrev pub logged_on_again : Bool → ℕ → MachineState → Answered
logged_on_again true n s = refuse_with text.ResetFlag n refusal.ResetAsked s
logged_on_again false n s = count n s

-- an application message is handed over, and counted
abbrev pub handed : ℕ → MachineState → Answered
handed n s = answer (Hand ∷ Expect (n + 1) ∷ []) (counted n s)

-- a ResendRequest (2) is counted, and served
abbrev pub resend_request : ℕ → ℕ → ℕ → MachineState → Answered
resend_request from to n s = answer (Expect (n + 1) ∷ Serve from to ∷ []) (counted n s)

-- a TestRequest (1) is answered by a Heartbeat (0) with its TestReqID (112)
abbrev pub test_request : List ℕ → ℕ → MachineState → Answered
test_request id n s = answer (Send (Heartbeat (Some id)) ∷ Expect (n + 1) ∷ []) (counted n (sent s))

-- a Logout (5) is counted before it is answered
abbrev pub logout : ℕ → MachineState → Answered
logout n s = answer (Expect (n + 1) ∷ logout_steps s.phase n) (logged_out s.phase (counted n s))

abbrev pub session_message : AdminSeen → ℕ → Inbound → MachineState → Answered
session_message (admin.Heartbeat id) n i s = count n s
session_message (admin.TestRequest id) n i s = test_request id n s
session_message (admin.ResendRequest from to) n i s = resend_request from to n s
session_message (admin.Reject about) n i s = count n s
session_message (admin.SequenceReset next gap) n i s = filled next n i s
session_message admin.Logout n i s = logout n s
session_message (admin.Logon heart reset version) n i s = logged_on_again i.reset n s

abbrev pub by_type : VerdictSeen → ℕ → Inbound → MachineState → Answered
by_type App n i s = handed n s
by_type (Admin admin) n i s = session_message admin n i s
by_type (Bad fault) n i s = rejected fault n i s

abbrev pub in_order_by : FindingSeen → ℕ → Inbound → MachineState → Answered
in_order_by found.Fine n i s = by_type i.verdict n i s
in_order_by (found.Reject fault) n i s = rejected fault n i s
in_order_by (found.RejectAndClose fault text cause) n i s = rejected_and_closed fault text cause n i s

-- ---- the table

-- with a readable MsgSeqNum (34)
abbrev pub numbered : Options → ℕ → Inbound → MachineState → Answered
numbered o n i s =
    if is_reset i then reset_by (checked o s i) n i s
    else (if nat_lt s.expected n then too_high o n i s
    else (if nat_lt n s.expected then too_low n i s
    else in_order_by (checked o s i) n i s))

abbrev pub by_number : Options → Option ℕ → Inbound → MachineState → Answered
by_number o None i s = refuse_with text.NoNumber 0 refusal.NoNumber s
by_number o (Some n) i s = numbered o n i s

abbrev pub logged_on : Options → MachineState → Inbound → Answered
logged_on o s i =
    if not (is_of_session o.identity i.header) then refuse_with text.BeginString
    (number_or_0 i.header.number) refusal.BeginString s
    else by_number o i.header.number i s
