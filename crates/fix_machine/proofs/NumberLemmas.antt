-- The steps of an answer say what its state says of the numbers.
use Rattle.std.proofs.Common.{◌≡◌, ℕ, ◌+◌, ◌==◌, ◌&&◌, Bool, true, false, nat_lt, nat_le, if◌then◌else◌, [], ◌∷◌, codes, Option, Some, None, refl}
use Rattle.std.specs.Prelude.{not, is_none}
use Rattle.fix_admin.specs.Values.{fault_of}
use Rattle.fix_admin.specs.declared.say.LogoutText.TheVariants as text
use Rattle.fix_machine.specs.declared.event.Refusal.TheVariants as refusal
use Rattle.fix_admin.specs.Admin as admin
use Rattle.fix_admin.specs.Admin.{AdminSeen}
use Rattle.fix_machine.specs.declared.state.Phase.{Phase}
use Rattle.fix_machine.specs.declared.state.Phase.TheVariants.{Down, AwaitLogon, Up, LogoutSent}
use Rattle.fix_machine.specs.declared.state.Role.{Role}
use Rattle.fix_machine.specs.declared.state.Role.TheVariants.{Acceptor, Initiator}
use Rattle.fix_machine.specs.declared.state.Requested.{Requested}
use Rattle.fix_machine.specs.declared.clock.Due.{Due}
use Rattle.fix_machine.specs.declared.clock.Due.TheVariants as due
use Rattle.fix_machine.specs.State.{Options, MachineState, sent, counted, emptied, up, expecting, read_clock, heard}
use Rattle.fix_machine.specs.Event.{Inbound, VerdictSeen, App, Admin, Bad, Serve, Stash, Expect, Confirm, Reset, EventSeen, Begin, First, Frame, Moved, Clock, Leave, Ended, Wrote}
use Rattle.fix_machine.specs.Answer.{Answered, answer, asked, ask_step, refuse, refuse_with, reject, silent, names, is_of_session, number_or_0, type_in}
use Rattle.fix_machine.specs.Checks as found
use Rattle.fix_machine.specs.Checks.{FindingSeen, checked}
use Rattle.fix_machine.specs.AwaitLogon as await
use Rattle.fix_machine.specs.LoggedOn as on
use Rattle.fix_machine.specs.Clock as clocks
use Rattle.fix_machine.specs.Decide as decide
use Rattle.fix_machine.specs.Numbers.{Adds, expected_after, last_after}

ends : {s : MachineState} (x : Answered) → x.next.expected ≡ expected_after x.steps s.expected → x.next.last ≡ last_after x.steps s.last → Adds s x
ends x p q = record { expected = p; last = q }

either : {s : MachineState} (b : Bool) (x y : Answered) → Adds s x → Adds s y → Adds s (if b then x else y)
either true x y p q = p
either false x y p q = q

-- ---- the first message

-- a count or a ResendRequest at the end
plain_by : (t : Bool) (o : Options) (n heart : ℕ) (s : MachineState) → Adds s (answer (await.logon o heart false ∷ (if t then ask_step o n (await.answered heart s) else Expect (n + 1)) ∷ []) (if t then asked o n (await.answered heart s) else counted n (await.answered heart s)))
plain_by true o n heart s = ends _ refl refl
plain_by false o n heart s = ends _ refl refl

own_by : (t : Bool) (o : Options) (n heart : ℕ) (s : MachineState) → Adds s (answer (Reset ∷ await.logon o heart false ∷ (if t then ask_step o n (await.answered heart (emptied s)) else Expect (n + 1)) ∷ []) (if t then asked o n (await.answered heart (emptied s)) else counted n (await.answered heart (emptied s))))
own_by true o n heart s = ends _ refl refl
own_by false o n heart s = ends _ refl refl

up_by : (t : Bool) (o : Options) (n : ℕ) (s : MachineState) → Adds s (answer ((if t then ask_step o n (up s) else Expect (n + 1)) ∷ []) (if t then asked o n (up s) else counted n (up s)))
up_by true o n s = ends _ refl refl
up_by false o n s = ends _ refl refl

taken_adds : (r : Role) (o : Options) (reset : Bool) (n heart : ℕ) (s : MachineState) → Adds s (await.taken r o reset n heart s)
taken_adds Acceptor o reset n heart s =
    either reset _ _ (ends (await.reset_answer o n heart s) refl refl)
    (either o.reset_on_logon _ _ (own_by (nat_lt 1 n) o n heart s) (plain_by (nat_lt s.expected n) o n heart s))
taken_adds Initiator o reset n heart s =
    either s.reset_asked _ _
    (either reset _ _ (ends (answer (Confirm ∷ Expect (n + 1) ∷ []) (counted n (await.confirmed s))) refl refl) (ends (refuse n refusal.ResetUnanswered s) refl refl))
    (either reset _ _ (ends (refuse n refusal.ResetAsked s) refl refl) (up_by (nat_lt s.expected n) o n s))

logon_adds : (heart : Option ℕ) (o : Options) (reset : Bool) (n : ℕ) (s : MachineState) → Adds s (await.logon_answer heart o reset n s)
logon_adds None o reset n s = ends _ refl refl
logon_adds (Some heart) o reset n s = either (reset && not (n == 1)) _ _ (ends (refuse n refusal.BadLogon s) refl refl) (taken_adds s.role o reset n heart s)

first_by_number : (o : Options) (number : Option ℕ) (s : MachineState) (i : Inbound) → Adds s (await.by_number o number s i)
first_by_number o None s i = ends _ refl refl
first_by_number o (Some n) s i =
    either (await.is_too_low o n s i.reset) _ _ (ends (refuse_with (text.TooLow s.expected n) n refusal.TooLow s) refl refl)
    (either (not (await.is_addressed o.identity i.header)) _ _ (ends (refuse n refusal.CompId s) refl refl)
    (either (not (await.is_near o.latency s.reading i.sent)) _ _ (ends (refuse n refusal.SendingTime s) refl refl)
    (logon_adds (await.heart_in o i.verdict) o i.reset n s)))

await_adds : (o : Options) (s : MachineState) (i : Inbound) → Adds s (await.await_logon o s i)
await_adds o s i =
    either (not (names i.header.type (codes "A"))) _ _ (ends (refuse (number_or_0 i.header.number) refusal.NotLogon s) refl refl)
    (either (not (is_of_session o.identity i.header)) _ _ (ends (refuse (number_or_0 i.header.number) refusal.BeginString s) refl refl)
    (first_by_number o i.header.number s i))

-- ---- later messages

reset_adds : (f : FindingSeen) (n : ℕ) (i : Inbound) (s : MachineState) → Adds s (on.reset_by f n i s)
reset_adds found.Fine n i s =
    either (nat_le s.expected (on.new_seq_no_in i.verdict)) _ _ (ends (answer (Expect (on.new_seq_no_in i.verdict) ∷ []) (expecting (on.new_seq_no_in i.verdict) s)) refl refl)
    (ends (answer (reject n (type_in i.header) (fault_of 5 36) ∷ []) (sent s)) refl refl)
reset_adds (found.Reject fault) n i s = ends _ refl refl
reset_adds (found.RejectAndClose fault text cause) n i s = ends _ refl refl

ask_by : (t : Bool) (o : Options) (n : ℕ) (s : MachineState) → Adds s (if t then answer (ask_step o n s ∷ []) (asked o n s) else answer [] s)
ask_by true o n s = ends _ refl refl
ask_by false o n s = ends _ refl refl

ask_adds : (o : Options) (n : ℕ) (s : MachineState) → Adds s (on.then_ask o n [] s)
ask_adds o n s = ask_by (is_none s.resend_requested) o n s

serve_adds : (o : Options) (n : ℕ) (s : MachineState) (from to : ℕ) → Adds s (on.then_ask o n (Serve from to ∷ []) s)
serve_adds o n s from to = either (is_none s.resend_requested) _ _ (ends (answer (Serve from to ∷ ask_step o n s ∷ []) (asked o n s)) refl refl) (ends (answer (Serve from to ∷ []) s) refl refl)

stash_adds : (o : Options) (n : ℕ) (s : MachineState) → Adds s (on.then_ask o n (Stash ∷ []) s)
stash_adds o n s = either (is_none s.resend_requested) _ _ (ends (answer (Stash ∷ ask_step o n s ∷ []) (asked o n s)) refl refl) (ends (answer (Stash ∷ []) s) refl refl)

out_by : (p : Phase) (n : ℕ) (s : MachineState) → Adds s (answer (on.logout_steps p n) (on.logged_out p s))
out_by Down n s = ends _ refl refl
out_by AwaitLogon n s = ends _ refl refl
out_by Up n s = ends _ refl refl
out_by LogoutSent n s = ends _ refl refl

logout_by : (p : Phase) (n : ℕ) (s : MachineState) → Adds s (answer (Expect (n + 1) ∷ on.logout_steps p n) (on.logged_out p (counted n s)))
logout_by Down n s = ends _ refl refl
logout_by AwaitLogon n s = ends _ refl refl
logout_by Up n s = ends _ refl refl
logout_by LogoutSent n s = ends _ refl refl

served_adds : (a : AdminSeen) (o : Options) (n : ℕ) (s : MachineState) → Adds s (on.served_early a o n s)
served_adds (admin.Heartbeat id) o n s = ask_adds o n s
served_adds (admin.TestRequest id) o n s = ask_adds o n s
served_adds (admin.ResendRequest from to) o n s = serve_adds o n s from to
served_adds (admin.Reject about) o n s = ask_adds o n s
served_adds (admin.SequenceReset next gap) o n s = ask_adds o n s
served_adds admin.Logout o n s = out_by s.phase n s
served_adds (admin.Logon heart reset version) o n s = ask_adds o n s

early_adds : (v : VerdictSeen) (o : Options) (n : ℕ) (s : MachineState) → Adds s (on.early_of v o n s)
early_adds App o n s = ask_adds o n s
early_adds (Admin a) o n s = served_adds a o n s
early_adds (Bad fault) o n s = ask_adds o n s

early_by_adds : (f : FindingSeen) (o : Options) (n : ℕ) (i : Inbound) (s : MachineState) → Adds s (on.early_by f o n i s)
early_by_adds found.Fine o n i s = early_adds i.verdict o n s
early_by_adds (found.Reject fault) o n i s = ask_adds o n s
early_by_adds (found.RejectAndClose fault text cause) o n i s = ask_adds o n s

again_adds : (reset : Bool) (n : ℕ) (s : MachineState) → Adds s (on.logged_on_again reset n s)
again_adds true n s = ends _ refl refl
again_adds false n s = ends _ refl refl

session_adds : (a : AdminSeen) (n : ℕ) (i : Inbound) (s : MachineState) → Adds s (on.session_message a n i s)
session_adds (admin.Heartbeat id) n i s = ends _ refl refl
session_adds (admin.TestRequest id) n i s = ends _ refl refl
session_adds (admin.ResendRequest from to) n i s = ends _ refl refl
session_adds (admin.Reject about) n i s = ends _ refl refl
session_adds (admin.SequenceReset next gap) n i s = either (nat_lt n next) _ _ (ends (answer (Expect next ∷ []) (expecting next s)) refl refl) (ends (on.rejected (fault_of 5 36) n i s) refl refl)
session_adds admin.Logout n i s = logout_by s.phase n s
session_adds (admin.Logon heart reset version) n i s = again_adds i.reset n s

type_adds : (v : VerdictSeen) (n : ℕ) (i : Inbound) (s : MachineState) → Adds s (on.by_type v n i s)
type_adds App n i s = ends _ refl refl
type_adds (Admin a) n i s = session_adds a n i s
type_adds (Bad fault) n i s = ends _ refl refl

order_adds : (f : FindingSeen) (n : ℕ) (i : Inbound) (s : MachineState) → Adds s (on.in_order_by f n i s)
order_adds found.Fine n i s = type_adds i.verdict n i s
order_adds (found.Reject fault) n i s = ends _ refl refl
order_adds (found.RejectAndClose fault text cause) n i s = ends _ refl refl

later_by_number : (o : Options) (number : Option ℕ) (i : Inbound) (s : MachineState) → Adds s (on.by_number o number i s)
later_by_number o None i s = ends _ refl refl
later_by_number o (Some n) i s =
    either (on.is_reset i) _ _ (reset_adds (checked o s i) n i s)
    (either (nat_lt s.expected n) _ _ (either (on.is_early i) _ _ (early_by_adds (checked o s i) o n i s) (either i.full _ _ (ask_adds o n s) (stash_adds o n s)))
    (either (nat_lt n s.expected) _ _ (either (names i.header.poss_dup (codes "Y")) _ _ (ends (silent s) refl refl) (ends (refuse_with (text.TooLow s.expected n) n refusal.TooLow s) refl refl))
    (order_adds (checked o s i) n i s)))

on_adds : (o : Options) (s : MachineState) (i : Inbound) → Adds s (on.logged_on o s i)
on_adds o s i = either (not (is_of_session o.identity i.header)) _ _ (ends (refuse_with text.BeginString (number_or_0 i.header.number) refusal.BeginString s) refl refl) (later_by_number o i.header.number i s)

pub message_adds : (p : Phase) (o : Options) (s : MachineState) (i : Inbound) → Adds s (decide.message p o s i)
message_adds Down o s i = ends _ refl refl
message_adds AwaitLogon o s i = await_adds o s i
message_adds Up o s i = on_adds o s i
message_adds LogoutSent o s i = on_adds o s i

-- ---- the clock, and the others

window_adds : (p : Phase) (now : ℕ) (s : MachineState) → Adds s (clocks.out_of_window p now s)
window_adds Down now s = ends _ refl refl
window_adds AwaitLogon now s = ends _ refl refl
window_adds Up now s = ends _ refl refl
window_adds LogoutSent now s = ends _ refl refl

due_adds : (d : Option Due) (s : MachineState) → Adds s (clocks.due_answer d s)
due_adds None s = ends _ refl refl
due_adds (Some due.LogonLate) s = ends _ refl refl
due_adds (Some due.LogoutLate) s = ends _ refl refl
due_adds (Some (due.Silent since)) s = ends _ refl refl
due_adds (Some due.TestRequest) s = ends _ refl refl
due_adds (Some due.Heartbeat) s = ends _ refl refl

pub looked_adds : (o : Options) (s : MachineState) (inside : Bool) → Adds s (clocks.clock o s inside)
looked_adds o s false = window_adds s.phase s.reading s
looked_adds o s true = due_adds (clocks.due_at o s s.reading) s

pub moved_adds : (gap : Option Requested) (o : Options) (s : MachineState) → Adds s (decide.moved_in gap o s)
moved_adds None o s = ends _ refl refl
moved_adds (Some gap) o s =
    either (nat_lt gap.above s.expected) _ _ (ends (silent (record s { resend_requested = None })) refl refl)
    (either (nat_lt 0 o.chunk && nat_lt gap.end s.expected) _ _ (ends (answer (ask_step o gap.above s ∷ []) (asked o gap.above s)) refl refl) (ends (silent s) refl refl))

pub left_adds : (p : Phase) (s : MachineState) → Adds s (decide.leave p s)
left_adds Down s = ends _ refl refl
left_adds AwaitLogon s = ends _ refl refl
left_adds Up s = ends _ refl refl
left_adds LogoutSent s = ends _ refl refl

-- every event but the sending of a draft, which has no step
pub every_adds : (o : Options) (s : MachineState) (e : EventSeen) → Adds (decide.started s e) (decide.answer_to o s e)
every_adds o s (Begin role now) = ends _ refl refl
every_adds o s First = ends _ refl refl
every_adds o s (Frame i) = record { expected = (message_adds s.phase o (heard s) i).expected; last = (message_adds s.phase o (heard s) i).last }
every_adds o s (Moved waiting) = moved_adds s.resend_requested o s
every_adds o s (Clock now inside) = record { expected = (looked_adds o (read_clock now s) inside).expected; last = (looked_adds o (read_clock now s) inside).last }
every_adds o s (Leave now) = record { expected = (left_adds s.phase (read_clock now s)).expected; last = (left_adds s.phase (read_clock now s)).last }
every_adds o s Ended = ends _ refl refl
every_adds o s (Wrote now) = ends _ refl refl
