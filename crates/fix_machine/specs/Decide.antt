-- The answer of a session to an event.
use Rattle.std.specs.Prelude.{◌&&◌, nat_lt, if◌then◌else◌, [], ◌∷◌, Option, Some, None}
use Rattle.fix_admin.specs.Say.{Logon, Logout}
use Rattle.fix_admin.specs.declared.say.LogoutText.TheVariants as text
use Rattle.fix_machine.specs.declared.state.Phase.{Phase}
use Rattle.fix_machine.specs.declared.state.Phase.TheVariants.{Down, AwaitLogon, Up, LogoutSent}
use Rattle.fix_machine.specs.declared.state.Requested.{Requested}
use Rattle.fix_machine.specs.Event.{EventSeen, Begin, First, Frame, Moved, Clock, Leave, Ended, Wrote, Inbound, Send}
use Rattle.fix_machine.specs.State.{Options, MachineState, read_clock, begun_as, heard, sent, closed}
use Rattle.fix_machine.specs.Answer.{Texts, texts_of, Answered, answer, silent, ask_step, asked}
use Rattle.fix_machine.specs.AwaitLogon.{await_logon}
use Rattle.fix_machine.specs.LoggedOn.{logged_on}
use Rattle.fix_machine.specs.Clock.{clock}

-- the first message of an initiator is a Logon (A)
abbrev pub first_logon : Options → MachineState → Answered
first_logon o s = answer (Send (Logon s.heart s.reset_asked o.version) ∷ []) (sent s)

abbrev pub message : Phase → Options → MachineState → Inbound → Answered
message Down o s i = silent s
message AwaitLogon o s i = await_logon o s i
message Up o s i = logged_on o s i
message LogoutSent o s i = logged_on o s i

-- the expected number changed: the gap is filled, or its next messages are asked for
abbrev pub moved_in : Option Requested → Options → MachineState → Answered
moved_in None o s = silent s
moved_in (Some gap) o s =
    if nat_lt gap.above s.expected then silent (record s { resend_requested = None })
    else (if nat_lt 0 o.chunk && nat_lt gap.end s.expected then answer (ask_step o gap.above s ∷ [])
    (asked o gap.above s)
    else silent s)

-- a session leaves by a Logout (5)
abbrev pub leave : Phase → MachineState → Answered
leave Down s = silent s
leave AwaitLogon s = silent s
leave Up s = answer (Send (Logout text.Empty) ∷ []) (record (sent s) { phase = LogoutSent; left_at = s.reading })
leave LogoutSent s = silent s

-- the texts of the message, where the event is one
abbrev pub texts_in : EventSeen → Texts
texts_in (Begin role now) = record { type = []; id = [] }
texts_in First = record { type = []; id = [] }
texts_in (Frame i) = texts_of i
texts_in (Moved waiting) = record { type = []; id = [] }
texts_in (Clock now inside) = record { type = []; id = [] }
texts_in (Leave now) = record { type = []; id = [] }
texts_in Ended = record { type = []; id = [] }
texts_in (Wrote now) = record { type = []; id = [] }

abbrev pub answer_to : Options → MachineState → EventSeen → Answered
answer_to o s (Begin role now) = silent (begun_as o role (read_clock now s))
answer_to o s First = first_logon o s
answer_to o s (Frame i) = message s.phase o (heard s) i
answer_to o s (Moved waiting) = moved_in s.resend_requested o s
answer_to o s (Clock now inside) = clock o (read_clock now s) inside
answer_to o s (Leave now) = leave s.phase (read_clock now s)
answer_to o s Ended = silent (closed s)
answer_to o s (Wrote now) = silent (sent (read_clock now s))

-- the state that the steps of an answer begin with: a draft, or a BusinessMessageReject, that was sent
-- by the application's turn has no step
abbrev pub started : MachineState → EventSeen → MachineState
started s (Begin role now) = s
started s First = s
started s (Frame i) = s
started s (Moved waiting) = s
started s (Clock now inside) = s
started s (Leave now) = s
started s Ended = s
started s (Wrote now) = sent s
