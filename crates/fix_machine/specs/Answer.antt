-- Answers to an event: the steps, and the state after them.
use Rattle.std.specs.Prelude.{ℕ, ◌+◌, ◌-◌, min, ◌==◌, nat_le, if◌then◌else◌, List, [], ◌∷◌, ◌++◌, take, Bool}
use Rattle.std.specs.Prelude.{false, ◌&&◌, Option, Some, None, bytes_eq}
use Rattle.fix_base.specs.declared.fault.Fault.{Fault}
use Rattle.fix_base.specs.declared.identity.Identity.{Identity}
use Rattle.fix_base.specs.Session.{begin_string_of}
use Rattle.fix_fields.specs.Header.{Header}
use Rattle.fix_admin.specs.Say.{SaySeen, ResendRequest, Logout}
use Rattle.fix_admin.specs.Say as say
use Rattle.fix_admin.specs.declared.say.LogoutText.{LogoutText}
use Rattle.fix_admin.specs.Admin as admin
use Rattle.fix_admin.specs.Admin.{AdminSeen}
use Rattle.fix_machine.specs.declared.answer.Answer.{Answer}
use Rattle.fix_machine.specs.declared.answer.Wrong.{Wrong}
use Rattle.fix_machine.specs.declared.answer.Task.{Task}
use Rattle.fix_machine.specs.declared.answer.Task.TheVariants as task
use Rattle.fix_machine.specs.declared.event.Decision.{Decision}
use Rattle.fix_machine.specs.declared.event.Refusal.{Refusal}
use Rattle.fix_machine.specs.declared.event.Why.TheVariants.{Refused}
use Rattle.fix_machine.specs.Event.{Inbound, VerdictSeen, App, Admin, Bad, StepSeen, Send, Serve, Hand, Stash}
use Rattle.fix_machine.specs.Event.{Expect, Reset, Confirm, Close, Nothing, step_seen}
use Rattle.fix_machine.specs.State.{Options, MachineState, sent, closed, requested}

-- four steps: those that are not used are nothing, and stand last
pub record Answered : Type 0 where
  pub steps : List StepSeen
  pub next : MachineState

abbrev pub padded : List StepSeen → List StepSeen
padded steps = take 4 (steps ++ Nothing ∷ Nothing ∷ Nothing ∷ Nothing ∷ [])

abbrev pub answer : List StepSeen → MachineState → Answered
answer steps next = record { steps = padded steps; next = next }

-- the steps of a decision
abbrev pub steps_of : Decision → List StepSeen
steps_of d = step_seen d.first ∷ step_seen d.second ∷ step_seen d.third ∷ step_seen d.fourth ∷ []

-- the texts of a message that its answer may give back: MsgType (35) and TestReqID (112)
pub record Texts : Type 0 where
  pub type : List ℕ
  pub id : List ℕ

-- a tag, where it may be one
abbrev pub in_range : Option ℕ → Option ℕ
in_range None = None
in_range (Some tag) = if nat_le 1 tag && nat_le tag 999999999 then Some tag else None

abbrev pub wrong_seen : Wrong → Fault
wrong_seen w = record { reason = w.reason; tag = in_range w.tag }

-- a task of the code is this step
abbrev pub task_seen : Texts → Task → StepSeen
task_seen t task.Heartbeat = Send (say.Heartbeat None)
task_seen t task.HeartbeatBack = Send (say.Heartbeat (Some t.id))
task_seen t task.TestRequest = Send say.TestRequest
task_seen t (task.ResendRequest from to) = Send (say.ResendRequest from to)
task_seen t (task.Reject about reason tag) = Send
    (say.Reject about t.type (record { reason = reason; tag = in_range tag }))
task_seen t (task.Logout text) = Send (say.Logout text)
task_seen t (task.Logon heart reset version) = Send (say.Logon heart reset version)
task_seen t (task.Serve from to) = Serve from to
task_seen t task.Hand = Hand
task_seen t task.Stash = Stash
task_seen t (task.Expect number) = Expect number
task_seen t task.Reset = Reset
task_seen t task.Confirm = Confirm
task_seen t (task.Close why) = Close why
task_seen t task.Nothing = Nothing

abbrev pub planned : Task → Task → Task → Task → MachineState → Answer
planned first second third fourth next = record {
  first = first;
  second = second;
  third = third;
  fourth = fourth;
  next = next;
}

-- the answer of the code
abbrev pub answered_by : Texts → Answer → Answered
answered_by t a = record {
  steps = task_seen t a.first ∷ task_seen t a.second ∷ task_seen t a.third ∷ task_seen t a.fourth ∷ [];
  next = a.next;
}

-- ---- what a header says

-- the value is there, and is this text
abbrev pub names : Option (List ℕ) → List ℕ → Bool
names None text = false
names (Some value) text = bytes_eq value text

-- BeginString (8) is the session's
abbrev pub is_of_session : Identity → Header → Bool
is_of_session id h = bytes_eq h.begin (begin_string_of id.begin)

-- MsgType (35)
abbrev pub type_in : Header → List ℕ
type_in h = elim h.type [ None ↦ [] | Some type ↦ type ]

-- the texts of a message
abbrev pub id_of : AdminSeen → List ℕ
id_of (admin.Heartbeat id) = []
id_of (admin.TestRequest id) = id
id_of (admin.ResendRequest from to) = []
id_of (admin.Reject about) = []
id_of (admin.SequenceReset next gap) = []
id_of admin.Logout = []
id_of (admin.Logon heart reset version) = []

abbrev pub id_in : VerdictSeen → List ℕ
id_in App = []
id_in (Admin admin) = id_of admin
id_in (Bad fault) = []

abbrev pub texts_of : Inbound → Texts
texts_of i = record { type = type_in i.header; id = id_in i.verdict }

-- the number, or 0 where none was readable
abbrev pub number_or_0 : Option ℕ → ℕ
number_or_0 None = 0
number_or_0 (Some number) = number

-- ---- answers that recur

-- nothing is done
abbrev pub silent : MachineState → Answered
silent s = answer [] s

-- the message is refused, and the connection closed
abbrev pub refuse : ℕ → Refusal → MachineState → Answered
refuse n cause s = answer (Close (Refused n cause) ∷ []) (closed s)

-- the same after a Logout (5) with a text
abbrev pub refuse_with : LogoutText → ℕ → Refusal → MachineState → Answered
refuse_with text n cause s = answer (Send (Logout text) ∷ Close (Refused n cause) ∷ []) (closed (sent s))

-- a Reject (3) of the message with this number
abbrev pub reject : ℕ → List ℕ → Fault → StepSeen
reject n type fault = Send (say.Reject n type fault)

-- ---- gaps

-- EndSeqNo (16) of a ResendRequest (2) for a gap that the number `n` showed: 0, for all that follow,
-- or the last of at most `chunk` messages
abbrev pub end_of : ℕ → ℕ → ℕ → ℕ
end_of chunk expected n = if chunk == 0 then 0 else min (expected + chunk - 1) n

-- the messages before the number `n` are asked for
abbrev pub ask_step : Options → ℕ → MachineState → StepSeen
ask_step o n s = Send (ResendRequest s.expected (end_of o.chunk s.expected n))

abbrev pub asked : Options → ℕ → MachineState → MachineState
asked o n s = sent (requested n (end_of o.chunk s.expected n) s)
