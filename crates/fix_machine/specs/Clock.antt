-- A reading of the clock. The first line that applies is the answer.
use Rattle.std.specs.Prelude.{ℕ, ◌-◌, ◌*◌, ◌==◌, nat_le, if◌then◌else◌, [], ◌∷◌, Bool, true, false}
use Rattle.std.specs.Prelude.{Option, Some, None}
use Rattle.fix_admin.specs.Say.{Heartbeat, TestRequest, Logout}
use Rattle.fix_admin.specs.declared.say.LogoutText.TheVariants as text
use Rattle.fix_machine.specs.declared.state.Phase.{Phase}
use Rattle.fix_machine.specs.declared.state.Phase.TheVariants.{Down, AwaitLogon, Up, LogoutSent}
use Rattle.fix_machine.specs.declared.clock.Due.{Due}
use Rattle.fix_machine.specs.declared.clock.Due.TheVariants as due
use Rattle.fix_machine.specs.declared.event.Why.{Why}
use Rattle.fix_machine.specs.declared.event.Why.TheVariants.{Silent, LogonLate, LogoutLate, OutOfWindow}
use Rattle.fix_machine.specs.Event.{Send, Close}
use Rattle.fix_machine.specs.State.{Options, MachineState, sent, closed}
use Rattle.fix_machine.specs.Answer.{Answered, answer, silent}

-- from a to b, or 0
abbrev pub elapsed : ℕ → ℕ → ℕ
elapsed a b = b - a

-- so many seconds have gone since
abbrev pub has_gone : ℕ → ℕ → ℕ → Bool
has_gone seconds since now = nat_le (1000000 * seconds) (elapsed since now)

-- HeartBtInt (108) and a fifth of it have gone since
abbrev pub is_silent : ℕ → ℕ → ℕ → Bool
is_silent heart since now = nat_le (6000000 * heart) (5 * elapsed since now)

abbrev pub closed_by : Why → MachineState → Answered
closed_by why s = answer (Close why ∷ []) (closed s)

-- ---- the lines on the session's time

abbrev pub out_of_window : Phase → ℕ → MachineState → Answered
out_of_window Down now s = silent s
out_of_window AwaitLogon now s = closed_by (OutOfWindow now) s
out_of_window Up now s = answer (Send (Logout text.OutOfWindow) ∷ Close (OutOfWindow now) ∷ []) (closed (sent s))
out_of_window LogoutSent now s = closed_by (OutOfWindow now) s

-- ---- the lines on what is due

abbrev pub due_if : Bool → Due → Option Due
due_if true due = Some due
due_if false due = None

-- a Heartbeat (0), HeartBtInt (108) after the last message was sent
abbrev pub heartbeat_at : MachineState → ℕ → Option Due
heartbeat_at s now = due_if (has_gone s.heart s.sent_at now) due.Heartbeat

-- silence since a TestRequest (1) closes; silence since the last message brings one
abbrev pub listened : Option ℕ → MachineState → ℕ → Option Due
listened (Some since) s now = if is_silent s.heart since now then Some (due.Silent since) else heartbeat_at s now
listened None s now = if is_silent s.heart s.read_at now then Some due.TestRequest else heartbeat_at s now

abbrev pub due_up : MachineState → ℕ → Option Due
due_up s now = if s.heart == 0 then None else listened s.test_request_sent_at s now

abbrev pub due_in : Phase → Options → MachineState → ℕ → Option Due
due_in Down o s now = None
due_in AwaitLogon o s now = due_if (has_gone o.logon_timeout s.begun now) due.LogonLate
due_in Up o s now = due_up s now
due_in LogoutSent o s now = due_if (has_gone o.logout_timeout s.left_at now) due.LogoutLate

abbrev pub due_at : Options → MachineState → ℕ → Option Due
due_at o s now = due_in s.phase o s now

abbrev pub due_answer : Option Due → MachineState → Answered
due_answer None s = silent s
due_answer (Some due.LogonLate) s = closed_by (LogonLate s.begun s.reading) s
due_answer (Some due.LogoutLate) s = closed_by (LogoutLate s.left_at s.reading) s
due_answer (Some (due.Silent since)) s = closed_by (Silent since s.reading) s
due_answer (Some due.TestRequest) s = answer (Send TestRequest ∷ [])
    (record (sent s) { test_request_sent_at = Some s.reading })
due_answer (Some due.Heartbeat) s = answer (Send (Heartbeat None) ∷ []) (sent s)

-- ---- the table, at the last reading

abbrev pub clock : Options → MachineState → Bool → Answered
clock o s false = out_of_window s.phase s.reading s
clock o s true = due_answer (due_at o s s.reading) s
