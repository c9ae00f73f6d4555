-- The words of worked rows: what a session does in a state at an event, by hand from the rules of the FIX session
-- layer. The session is FIX.4.2, SELL to BUY, with HeartBtInt 30, LogonTimeout 10 and LogoutTimeout 2,
-- and its clock stands at 2024-01-02 10:00:00.
use Rattle.std.specs.Prelude.{◌≡◌, ℕ, List, codes, Bool, true, false, Option, Some, None, ℤ, pos}
use Rattle.fix_base.specs.declared.identity.Begin.TheVariants.{Fix42}
use Rattle.fix_fields.specs.Header.{Header}
use Rattle.fix_admin.specs.Values.{fault_of}
use Rattle.fix_admin.specs.Admin as admin
use Rattle.fix_admin.specs.Say as say
use Rattle.fix_machine.specs.declared.state.Phase.TheVariants as phase
use Rattle.fix_machine.specs.declared.state.Role.{Role}
use Rattle.fix_machine.specs.declared.state.Role.TheVariants.{Acceptor, Initiator}
use Rattle.fix_machine.specs.Event.{Inbound, VerdictSeen, Admin, EventSeen, Frame}
use Rattle.fix_machine.specs.Event.{StepSeen, Send}
use Rattle.fix_machine.specs.State.{Options, MachineState, sent}
use Rattle.fix_machine.specs.Answer.{answer}
use Rattle.fix_machine.specs.Decide.{answer_to}

pub record Row : Type 0 where
  pub options : Options
  pub state : MachineState
  pub event : EventSeen
  pub steps : List StepSeen
  pub next : MachineState

abbrev pub row : Options → MachineState → EventSeen → List StepSeen → MachineState → Row
row options state event steps next = record {
  options = options;
  state = state;
  event = event;
  steps = steps;
  next = next;
}

-- the row holds
abbrev pub IsAnswered : Row → Type 0
IsAnswered r = answer_to r.options r.state r.event ≡ answer r.steps r.next

-- 2024-01-02 10:00:00
abbrev pub T : ℕ
T = 1704189600000000

-- ---- options

abbrev pub own : Options
own = record {
  identity = record { begin = Fix42; sender = codes "SELL"; target = codes "BUY" };
  heart = 30;
  chunk = 0;
  latency = Some 120;
  logon_timeout = 10;
  logout_timeout = 2;
  persist = true;
  reset_on_logon = false;
  version = None;
}

abbrev pub chunked : Options
chunked = record own { chunk = 2 }

abbrev pub lenient : Options
lenient = record own { latency = None }

abbrev pub resetting : Options
resetting = record own { reset_on_logon = true }

abbrev pub fixt : Options
fixt = record own { version = Some 9 }

abbrev pub idle : Options
idle = record own { logout_timeout = 86400 }

-- ---- states, all of whose times are T: the numbers are the expected one and the last

abbrev pub waits : Role → ℕ → ℕ → MachineState
waits side expected last = record {
  phase = phase.AwaitLogon;
  role = side;
  expected = expected;
  last = last;
  heart = 30;
  resend_requested = None;
  reset_asked = false;
  reading = T;
  begun = T;
  sent_at = T;
  read_at = T;
  left_at = T;
  test_request_sent_at = None;
}

abbrev pub on : ℕ → ℕ → MachineState
on expected last = record (waits Acceptor expected last) { phase = phase.Up }

abbrev pub left : ℕ → ℕ → MachineState
left expected last = record (waits Acceptor expected last) { phase = phase.LogoutSent }

-- a reset by Logon was asked for
abbrev pub asks : MachineState → MachineState
asks s = record s { reset_asked = true }

-- a TestRequest was sent at the last reading
abbrev pub testing : MachineState → MachineState
testing s = record (sent s) { test_request_sent_at = Some s.reading }

abbrev pub unbeaten : MachineState → MachineState
unbeaten s = record s { heart = 0 }

-- ---- headers: BUY to SELL, at T

abbrev pub head : List ℕ → Option ℕ → Header
head type number = record {
  begin = codes "FIX.4.2";
  type = Some type;
  number = number;
  poss_dup = None;
  sender = Some (codes "BUY");
  target = Some (codes "SELL");
  sending_time = Some (codes "20240102-10:00:00");
  orig_sending_time = None;
}

abbrev pub of_version : List ℕ → Header → Header
of_version version h = record h { begin = version }

abbrev pub from_nobody : Header → Header
from_nobody h = record h { sender = None }

abbrev pub to_nobody : Header → Header
to_nobody h = record h { target = None }

abbrev pub from_whom : List ℕ → Header → Header
from_whom sender h = record h { sender = Some sender }

abbrev pub to_whom : List ℕ → Header → Header
to_whom target h = record h { target = Some target }

abbrev pub untimed : Header → Header
untimed h = record h { sending_time = None }

-- PossDupFlag (43)
abbrev pub flagged : List ℕ → Header → Header
flagged flag h = record h { poss_dup = Some flag }

abbrev pub marked : Header → Header
marked h = flagged (codes "Y") h

-- with OrigSendingTime (122)
abbrev pub again : Header → Header
again h = record (marked h) { orig_sending_time = Some (codes "20240102-10:00:00") }

abbrev pub inbound : Header → Option ℤ → Option ℤ → VerdictSeen → Bool → Bool → Bool → Inbound
inbound h sent first_sent verdict full gap reset = record {
  header = h;
  sent = sent;
  first_sent = first_sent;
  verdict = verdict;
  full = full;
  gap = gap;
  reset = reset;
}

abbrev pub of : List ℕ → ℕ → Header
of type number = head type (Some number)

-- a message, both of whose times are as its header says: SendingTime is T
abbrev pub reads : Header → VerdictSeen → EventSeen
reads h v = Frame (inbound h (Some (pos T)) None v false false false)

-- no message more can wait
abbrev pub cramped : Header → VerdictSeen → EventSeen
cramped h v = Frame (inbound h (Some (pos T)) None v true false false)

-- with GapFillFlag (123)
abbrev pub fills : Header → VerdictSeen → EventSeen
fills h v = Frame (inbound h (Some (pos T)) None v false true false)

-- with ResetSeqNumFlag (141)
abbrev pub resets : Header → VerdictSeen → EventSeen
resets h v = Frame (inbound h (Some (pos T)) None v false false true)

-- whose SendingTime is absent, or no UTCTimestamp
abbrev pub unread : Header → VerdictSeen → EventSeen
unread h v = Frame (inbound h None None v false false false)

-- at this SendingTime, or at this OrigSendingTime
abbrev pub dated : ℕ → Header → VerdictSeen → EventSeen
dated time h v = Frame (inbound h (Some (pos time)) None v false false false)

abbrev pub dated_first : ℕ → Header → VerdictSeen → EventSeen
dated_first time h v = Frame (inbound h (Some (pos T)) (Some (pos time)) v false false false)

-- a Logon with HeartBtInt 20, and one with ResetSeqNumFlag
abbrev pub plain : VerdictSeen
plain = Admin (admin.Logon 20 false None)

abbrev pub resetting_logon : VerdictSeen
resetting_logon = Admin (admin.Logon 20 true None)

abbrev pub rejects : ℕ → List ℕ → ℕ → ℕ → StepSeen
rejects number type reason tag = Send (say.Reject number type (fault_of reason tag))

-- an acceptor and an initiator that wait for a Logon with these expected numbers, and a session that
-- expects 2
abbrev pub a1 : MachineState
a1 = waits Acceptor 1 0

abbrev pub a5 : MachineState
a5 = waits Acceptor 5 3

abbrev pub a9 : MachineState
a9 = waits Acceptor 9 3

abbrev pub i1 : MachineState
i1 = waits Initiator 1 1

abbrev pub i5 : MachineState
i5 = waits Initiator 5 3

abbrev pub u2 : MachineState
u2 = on 2 1
