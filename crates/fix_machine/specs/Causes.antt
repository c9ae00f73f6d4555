-- Why a connection is closed, and what moves the expected number: each cause in the terms of the tables.
use Rattle.std.specs.Prelude.{◌≡◌, ◌≢◌, ℕ, ◌<◌, ◌≤◌, Bool, true, false, not, List, ◌∷◌, codes, bytes_eq}
use Rattle.std.specs.Prelude.{Option, Some, None, ℤ}
use Rattle.std.specs.List.{AllByRecursion}
use Rattle.fix_admin.specs.Admin as admin
use Rattle.fix_machine.specs.declared.state.Phase.{Phase}
use Rattle.fix_machine.specs.declared.state.Phase.TheVariants.{Down, AwaitLogon, Up, LogoutSent}
use Rattle.fix_machine.specs.declared.state.Role.TheVariants.{Initiator}
use Rattle.fix_machine.specs.declared.event.Why.{Why}
use Rattle.fix_machine.specs.declared.event.Why.TheVariants.{Refused, LoggedOut, Silent, LogonLate, LogoutLate}
use Rattle.fix_machine.specs.declared.event.Why.TheVariants.{OutOfWindow}
use Rattle.fix_machine.specs.declared.event.Refusal.TheVariants as refusal
use Rattle.fix_machine.specs.State.{Options, MachineState, heard, read_clock}
use Rattle.fix_machine.specs.Event.{Inbound, Admin, EventSeen, Begin, First, Frame, Moved, Clock, Leave, Ended, Wrote}
use Rattle.fix_machine.specs.Event.{StepSeen, Send, Serve, Hand, Stash, Expect, Reset, Confirm, Close, Nothing}
use Rattle.fix_machine.specs.Answer.{Answered, names, is_of_session, number_or_0}
use Rattle.fix_machine.specs.Checks.{Fine, checked, is_timely, is_later}
use Rattle.fix_machine.specs.AwaitLogon.{is_addressed, is_near, resets_each, heart_in}
use Rattle.fix_machine.specs.LoggedOn.{is_reset}
use Rattle.fix_machine.specs.Clock.{has_gone, is_silent}

-- ---- why a connection is closed

-- by the first message on it
pub data ClosesAtLogon (o : Options) (s : MachineState) (i : Inbound) : Why → Type 0 where
  -- it is no Logon (A)
  not_logon : names i.header.type (codes "A") ≡ false
      → ClosesAtLogon o s i (Refused (number_or_0 i.header.number) refusal.NotLogon)
  -- its BeginString (8) isn't the session's
  begin_string : is_of_session o.identity i.header ≡ false
      → ClosesAtLogon o s i (Refused (number_or_0 i.header.number) refusal.BeginString)
  -- its MsgSeqNum (34) isn't readable
  no_number : i.header.number ≡ None → ClosesAtLogon o s i (Refused 0 refusal.NoNumber)
  -- its MsgSeqNum is below the expected one, and nothing is reset
  too_low : (n : ℕ) → i.header.number ≡ Some n → n < s.expected → i.reset ≡ false → resets_each o s ≡ false
      → ClosesAtLogon o s i (Refused n refusal.TooLow)
  -- its SenderCompID (49) or TargetCompID (56) is absent or wrong
  comp_id : (n : ℕ) → i.header.number ≡ Some n → is_addressed o.identity i.header ≡ false
      → ClosesAtLogon o s i (Refused n refusal.CompId)
  -- its SendingTime (52) is absent, no UTCTimestamp, or too far off
  sending_time : (n : ℕ) → i.header.number ≡ Some n → is_near o.latency s.reading i.sent ≡ false
      → ClosesAtLogon o s i (Refused n refusal.SendingTime)
  -- it has a fault, or another DefaultApplVerID (1137)
  bad_logon : (n : ℕ) → i.header.number ≡ Some n → heart_in o i.verdict ≡ None
      → ClosesAtLogon o s i (Refused n refusal.BadLogon)
  -- it has ResetSeqNumFlag (141) and isn't number 1
  late_reset : (n : ℕ) → i.header.number ≡ Some n → i.reset ≡ true → n ≢ 1
      → ClosesAtLogon o s i (Refused n refusal.BadLogon)
  -- it doesn't answer the reset that an initiator asked for
  reset_unanswered : (n : ℕ) → i.header.number ≡ Some n → s.role ≡ Initiator → s.reset_asked ≡ true → i.reset ≡ false
      → ClosesAtLogon o s i (Refused n refusal.ResetUnanswered)
  -- it resets though the initiator didn't ask for that
  reset_asked : (n : ℕ) → i.header.number ≡ Some n → s.role ≡ Initiator → s.reset_asked ≡ false → i.reset ≡ true
      → ClosesAtLogon o s i (Refused n refusal.ResetAsked)

-- the field is there, and isn't this text
abbrev pub is_other : Option (List ℕ) → List ℕ → Bool
is_other None text = false
is_other (Some value) text = not (bytes_eq value text)

-- by a later message
pub data ClosesLater (o : Options) (s : MachineState) (i : Inbound) : Why → Type 0 where
  -- its BeginString (8) isn't the session's
  begin_string : is_of_session o.identity i.header ≡ false
      → ClosesLater o s i (Refused (number_or_0 i.header.number) refusal.BeginString)
  -- its MsgSeqNum (34) isn't readable
  no_number : i.header.number ≡ None → ClosesLater o s i (Refused 0 refusal.NoNumber)
  -- its MsgSeqNum is below the expected one, and PossDupFlag (43) isn't Y
  too_low : (n : ℕ) → i.header.number ≡ Some n → n < s.expected → names i.header.poss_dup (codes "Y") ≡ false
      → ClosesLater o s i (Refused n refusal.TooLow)
  -- its SenderCompID (49) is another
  sender : (n : ℕ) → i.header.number ≡ Some n → is_other i.header.sender o.identity.target ≡ true
      → ClosesLater o s i (Refused n refusal.CompId)
  -- its TargetCompID (56) is another
  target : (n : ℕ) → i.header.number ≡ Some n → is_other i.header.target o.identity.sender ≡ true
      → ClosesLater o s i (Refused n refusal.CompId)
  -- its SendingTime (52) is too far off
  sending_time : (n : ℕ) (time : ℤ) → i.header.number ≡ Some n → i.sent ≡ Some time
      → is_timely o.latency s.reading time ≡ false → ClosesLater o s i (Refused n refusal.SendingTime)
  -- it is sent again, and its OrigSendingTime (122) is later than SendingTime (52)
  orig_sending_time : (n : ℕ) (time : ℤ) → i.header.number ≡ Some n → names i.header.poss_dup (codes "Y") ≡ true
      → i.first_sent ≡ Some time → is_later time i.sent ≡ true → ClosesLater o s i (Refused n refusal.SendingTime)
  -- it is a Logon (A) of the expected number with ResetSeqNumFlag (141)
  reset_asked : (heart : ℕ) (reset : Bool) (version : Option ℕ) → i.header.number ≡ Some s.expected
      → i.verdict ≡ Admin (admin.Logon heart reset version) → i.reset ≡ true
      → ClosesLater o s i (Refused s.expected refusal.ResetAsked)
  -- it is a Logout (5) of the expected number or above, in which no check finds anything
  logged_out : (n : ℕ) → i.header.number ≡ Some n → s.expected ≤ n → i.verdict ≡ Admin admin.Logout
      → checked o s i ≡ Fine → ClosesLater o s i (LoggedOut n)

-- by a reading of the clock
pub data ClosesInTime (o : Options) (s : MachineState) (inside : Bool) : Why → Type 0 where
  -- the session's time is over
  out_of_window : inside ≡ false → ClosesInTime o s inside (OutOfWindow s.reading)
  -- the first Logon (A) didn't come in LogonTimeout
  logon_late : s.phase ≡ AwaitLogon → has_gone o.logon_timeout s.begun s.reading ≡ true
      → ClosesInTime o s inside (LogonLate s.begun s.reading)
  -- the answer to the Logout (5) didn't come in LogoutTimeout
  logout_late : s.phase ≡ LogoutSent → has_gone o.logout_timeout s.left_at s.reading ≡ true
      → ClosesInTime o s inside (LogoutLate s.left_at s.reading)
  -- nothing came for HeartBtInt (108) and a fifth of it since a TestRequest (1)
  is_silent_since : (since : ℕ) → s.phase ≡ Up → s.test_request_sent_at ≡ Some since
      → is_silent s.heart since s.reading ≡ true → ClosesInTime o s inside (Silent since s.reading)

abbrev pub MessageCloses : Phase → Options → MachineState → Inbound → Why → Type 0
MessageCloses Down o s i why = ⊥
MessageCloses AwaitLogon o s i why = ClosesAtLogon o s i why
MessageCloses Up o s i why = ClosesLater o s i why
MessageCloses LogoutSent o s i why = ClosesLater o s i why

-- the event closes the connection for this
abbrev pub IsCause : Options → MachineState → EventSeen → Why → Type 0
IsCause o s (Begin role now) why = ⊥
IsCause o s First why = ⊥
IsCause o s (Frame i) why = MessageCloses s.phase o (heard s) i why
IsCause o s (Moved waiting) why = ⊥
IsCause o s (Clock now inside) why = ClosesInTime o (read_clock now s) inside why
IsCause o s (Leave now) why = ⊥
IsCause o s Ended why = ⊥
IsCause o s (Wrote now) why = ⊥

-- where the step closes the connection, it does so for one of these causes
abbrev pub HasCause : (Why → Type 0) → StepSeen → Type 0
HasCause is_cause (Send say) = Unit {0}
HasCause is_cause (Serve from to) = Unit {0}
HasCause is_cause Hand = Unit {0}
HasCause is_cause Stash = Unit {0}
HasCause is_cause (Expect number) = Unit {0}
HasCause is_cause Reset = Unit {0}
HasCause is_cause Confirm = Unit {0}
HasCause is_cause (Close why) = is_cause why
HasCause is_cause Nothing = Unit {0}

pub record HaveCauses (is_cause : Why → Type 0) (x : Answered) : Type 0 where
  pub each : AllByRecursion (HasCause is_cause) x.steps

-- ---- what moves the expected number

pub data MayMove (s : MachineState) (x : Answered) : EventSeen → Type 0 where
  -- nothing does
  stays : {e : EventSeen} → x.next.expected ≡ s.expected → MayMove s x e
  -- a message of the expected number
  in_order : {i : Inbound} → i.header.number ≡ Some s.expected → MayMove s x (Frame i)
  -- a SequenceReset (4) without GapFillFlag (123)
  resets : {i : Inbound} → is_reset i ≡ true → MayMove s x (Frame i)
  -- a Logon (A) at which the store is reset, or which answers the reset that was asked for
  begins_anew : {i : Inbound} (steps : List StepSeen) → x.steps ≡ Reset ∷ steps → MayMove s x (Frame i)
  is_confirmed : {i : Inbound} (steps : List StepSeen) → x.steps ≡ Confirm ∷ steps → MayMove s x (Frame i)
