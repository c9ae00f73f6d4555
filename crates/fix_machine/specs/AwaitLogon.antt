-- The first message on a connection. The first line that applies is the answer.
use Rattle.std.specs.Prelude.{ℕ, ◌+◌, ◌==◌, nat_lt, if◌then◌else◌, [], ◌∷◌, Bool, true, false, not, ◌&&◌}
use Rattle.std.specs.Prelude.{Option, Some, None, codes, ℤ}
use Rattle.fix_base.specs.declared.identity.Identity.{Identity}
use Rattle.fix_fields.specs.Header.{Header}
use Rattle.fix_admin.specs.Admin as admin
use Rattle.fix_admin.specs.Admin.{AdminSeen}
use Rattle.fix_admin.specs.Say.{Logon}
use Rattle.fix_admin.specs.declared.say.LogoutText.TheVariants.{TooLow}
use Rattle.fix_machine.specs.declared.state.Role.{Role}
use Rattle.fix_machine.specs.declared.state.Role.TheVariants.{Acceptor, Initiator}
use Rattle.fix_machine.specs.declared.event.Refusal.TheVariants as refusal
use Rattle.fix_machine.specs.Event.{Inbound, VerdictSeen, App, Admin, Bad, StepSeen, Send, Expect, Reset, Confirm}
use Rattle.fix_machine.specs.State.{Options, MachineState, sent, counted, emptied, up}
use Rattle.fix_machine.specs.Answer.{Answered, answer, names, is_of_session, number_or_0, refuse, refuse_with}
use Rattle.fix_machine.specs.Answer.{ask_step, asked}
use Rattle.fix_machine.specs.Checks.{is_timely}

-- ---- what is looked at

-- SenderCompID (49) is the counterparty, and TargetCompID (56) this end
abbrev pub is_addressed : Identity → Header → Bool
is_addressed id h = names h.sender id.target && names h.target id.sender

-- SendingTime (52) is there, and near enough
abbrev pub is_near : Option ℕ → ℕ → Option ℤ → Bool
is_near latency reading None = false
is_near latency reading (Some time) = is_timely latency reading time

-- an acceptor with ResetOnLogon resets at each Logon
abbrev pub is_acceptor : Role → Bool
is_acceptor Acceptor = true
is_acceptor Initiator = false

abbrev pub resets_each : Options → MachineState → Bool
resets_each o s = o.reset_on_logon && is_acceptor s.role

-- DefaultApplVerID (1137) of a Logon in a session of FIXT.1.1 is the session's
abbrev pub has_version : Option ℕ → Option ℕ → Bool
has_version None read = true
has_version (Some version) None = false
has_version (Some version) (Some read) = read == version

-- HeartBtInt (108) of a Logon with no fault
abbrev pub heart_if : Bool → ℕ → Option ℕ
heart_if true heart = Some heart
heart_if false heart = None

abbrev pub heart_of : Options → AdminSeen → Option ℕ
heart_of o (admin.Heartbeat id) = None
heart_of o (admin.TestRequest id) = None
heart_of o (admin.ResendRequest from to) = None
heart_of o (admin.Reject about) = None
heart_of o (admin.SequenceReset next gap) = None
heart_of o admin.Logout = None
heart_of o (admin.Logon heart reset version) = heart_if (has_version o.version version) heart

abbrev pub heart_in : Options → VerdictSeen → Option ℕ
heart_in o App = None
heart_in o (Admin admin) = heart_of o admin
heart_in o (Bad fault) = None

-- ---- the answers to a Logon that is taken

-- the Logon is counted, or the messages before it are asked for
abbrev pub count_or_ask : Options → ℕ → MachineState → StepSeen
count_or_ask o n s = if nat_lt s.expected n then ask_step o n s else Expect (n + 1)

abbrev pub counted_or_asked : Options → ℕ → MachineState → MachineState
counted_or_asked o n s = if nat_lt s.expected n then asked o n s else counted n s

-- the Logon that answers it, with the same HeartBtInt (108)
abbrev pub logon : Options → ℕ → Bool → StepSeen
logon o heart reset = Send (Logon heart reset o.version)

-- HeartBtInt (108) is in force, and the Logon is answered
abbrev pub answered : ℕ → MachineState → MachineState
answered heart s = up (sent (record s { heart = heart }))

-- with ResetSeqNumFlag (141): both lists begin anew
abbrev pub reset_answer : Options → ℕ → ℕ → MachineState → Answered
reset_answer o n heart s =
    answer (Reset ∷ logon o heart true ∷ Expect (n + 1) ∷ []) (counted n (answered heart (emptied s)))

-- without it, at an acceptor that resets at each Logon
abbrev pub own_reset_answer : Options → ℕ → ℕ → MachineState → Answered
own_reset_answer o n heart s =
    let t = answered heart (emptied s) in
    answer (Reset ∷ logon o heart false ∷ count_or_ask o n t ∷ []) (counted_or_asked o n t)

-- without it
abbrev pub plain_answer : Options → ℕ → ℕ → MachineState → Answered
plain_answer o n heart s =
    let t = answered heart s in
    answer (logon o heart false ∷ count_or_ask o n t ∷ []) (counted_or_asked o n t)

abbrev pub acceptor_answer : Options → Bool → ℕ → ℕ → MachineState → Answered
acceptor_answer o reset n heart s =
    if reset then reset_answer o n heart s
    else (if o.reset_on_logon then own_reset_answer o n heart s
    else plain_answer o n heart s)

-- the reset that was asked for is answered
abbrev pub confirmed : MachineState → MachineState
confirmed s = up (record s { reset_asked = false })

abbrev pub initiator_answer : Options → Bool → ℕ → MachineState → Answered
initiator_answer o reset n s =
    if s.reset_asked then
    (if reset then answer (Confirm ∷ Expect (n + 1) ∷ []) (counted n (confirmed s))
    else refuse n refusal.ResetUnanswered s)
    else (if reset then refuse n refusal.ResetAsked s else answer (count_or_ask o n (up s) ∷ [])
    (counted_or_asked o n (up s)))

abbrev pub taken : Role → Options → Bool → ℕ → ℕ → MachineState → Answered
taken Acceptor o reset n heart s = acceptor_answer o reset n heart s
taken Initiator o reset n heart s = initiator_answer o reset n s

-- ---- the table

-- ResetSeqNumFlag (141) stands in a Logon of number 1 alone
abbrev pub logon_answer : Option ℕ → Options → Bool → ℕ → MachineState → Answered
logon_answer None o reset n s = refuse n refusal.BadLogon s
logon_answer (Some heart) o reset n s =
    if reset && not (n == 1) then refuse n refusal.BadLogon s else taken s.role o reset n heart s

-- the number is below the expected one, and nothing is reset
abbrev pub is_too_low : Options → ℕ → MachineState → Bool → Bool
is_too_low o n s reset = nat_lt n s.expected && (not reset && not (resets_each o s))

-- with a readable MsgSeqNum (34)
abbrev pub numbered_answer : Options → ℕ → MachineState → Inbound → Answered
numbered_answer o n s i =
    if is_too_low o n s i.reset then refuse_with (TooLow s.expected n) n refusal.TooLow s
    else (if not (is_addressed o.identity i.header) then refuse n refusal.CompId s
    else (if not (is_near o.latency s.reading i.sent) then refuse n refusal.SendingTime s
    else logon_answer (heart_in o i.verdict) o i.reset n s))

abbrev pub by_number : Options → Option ℕ → MachineState → Inbound → Answered
by_number o None s i = refuse 0 refusal.NoNumber s
by_number o (Some n) s i = numbered_answer o n s i

abbrev pub await_logon : Options → MachineState → Inbound → Answered
await_logon o s i =
    if not (names i.header.type (codes "A")) then refuse (number_or_0 i.header.number) refusal.NotLogon s
    else (if not (is_of_session o.identity i.header) then refuse (number_or_0 i.header.number) refusal.BeginString s
    else by_number o i.header.number s i)
