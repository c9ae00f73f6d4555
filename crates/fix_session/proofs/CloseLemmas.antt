-- A session that isn't Down is Down after an answer only where one of its steps is a close.
use Rattle.std.proofs.Common.{◌≡◌, ◌≢◌, ℕ, ◌+◌, ◌==◌, ◌&&◌, Bool, true, false, nat_lt, nat_le, if◌then◌else◌, [], ◌∷◌, codes, Option, Some, None, refl}
use Rattle.std.specs.Prelude.{not, is_none}
use Rattle.fix_admin.specs.Values.{fault_of}
use Rattle.fix_admin.specs.declared.say.LogoutText.TheVariants as text
use Rattle.fix_machine.specs.declared.event.Refusal.TheVariants as refusal
use Rattle.fix_admin.specs.Admin as admin
use Rattle.fix_admin.specs.Admin.{AdminSeen}
use Rattle.fix_machine.specs.declared.state.Phase.{Phase}
use Rattle.fix_machine.specs.declared.state.Phase.TheVariants.{Down, AwaitLogon, Up, LogoutSent}
use Rattle.fix_machine.specs.declared.state.Role.{Role}
use Rattle.fix_machine.specs.declared.state.Role.TheVariants.{Acceptor, Initiator}
use Rattle.fix_machine.specs.declared.state.Requested.{Requested}
use Rattle.fix_machine.specs.declared.clock.Due.{Due}
use Rattle.fix_machine.specs.declared.clock.Due.TheVariants as due
use Rattle.fix_machine.specs.declared.state.Options.{Options}
use Rattle.fix_machine.specs.declared.state.MachineState.{MachineState}
use Rattle.fix_machine.specs.State.{sent, counted, emptied, up, expecting, read_clock, heard}
use Rattle.fix_machine.specs.Event.{Inbound, VerdictSeen, App, Admin, Bad, Serve, Stash, Expect, Confirm, Reset, EventSeen, Begin, First, Frame, Moved, Clock, Leave, Ended, Wrote}
use Rattle.fix_machine.specs.Answer.{Answered, answer, asked, ask_step, refuse, refuse_with, reject, silent, names, is_of_session, number_or_0, type_in}
use Rattle.fix_machine.specs.Checks as found
use Rattle.fix_machine.specs.Checks.{FindingSeen, checked}
use Rattle.fix_machine.specs.AwaitLogon as await
use Rattle.fix_machine.specs.LoggedOn as on
use Rattle.fix_machine.specs.Clock as clocks
use Rattle.fix_machine.specs.Decide as decide
use Rattle.std.specs.List.{list_any}
use Rattle.fix_steps.specs.Leaves.{is_close}

-- where it is Down after the answer
pub record Closes (s : MachineState) (x : Answered) : Type 0 where
  pub says : s.phase ≢ Down → x.next.phase ≡ Down → list_any is_close x.steps ≡ true

ends : {s : MachineState} (x : Answered) → (s.phase ≢ Down → x.next.phase ≡ Down → list_any is_close x.steps ≡ true) → Closes s x
ends x h = record { says = h }

either : {s : MachineState} (b : Bool) (x y : Answered) → Closes s x → Closes s y → Closes s (if b then x else y)
either true x y p q = p
either false x y p q = q

-- ---- the first message

-- a count or a ResendRequest at the end
plain_by : (t : Bool) (o : Options) (n heart : ℕ) (s : MachineState) → Closes s (answer (await.logon o heart false ∷ (if t then ask_step o n (await.answered heart s) else Expect (n + 1)) ∷ []) (if t then asked o n (await.answered heart s) else counted n (await.answered heart s)))
plain_by true o n heart s = ends _ (λ up down. cc)
plain_by false o n heart s = ends _ (λ up down. cc)

own_by : (t : Bool) (o : Options) (n heart : ℕ) (s : MachineState) → Closes s (answer (Reset ∷ await.logon o heart false ∷ (if t then ask_step o n (await.answered heart (emptied s)) else Expect (n + 1)) ∷ []) (if t then asked o n (await.answered heart (emptied s)) else counted n (await.answered heart (emptied s))))
own_by true o n heart s = ends _ (λ up down. cc)
own_by false o n heart s = ends _ (λ up down. cc)

up_by : (t : Bool) (o : Options) (n : ℕ) (s : MachineState) → Closes s (answer ((if t then ask_step o n (up s) else Expect (n + 1)) ∷ []) (if t then asked o n (up s) else counted n (up s)))
up_by true o n s = ends _ (λ up down. cc)
up_by false o n s = ends _ (λ up down. cc)

taken_closes : (r : Role) (o : Options) (reset : Bool) (n heart : ℕ) (s : MachineState) → Closes s (await.taken r o reset n heart s)
taken_closes Acceptor o reset n heart s =
    either reset _ _ (ends (await.reset_answer o n heart s) (λ up down. cc))
    (either o.reset_on_logon _ _ (own_by (nat_lt 1 n) o n heart s) (plain_by (nat_lt s.expected n) o n heart s))
taken_closes Initiator o reset n heart s =
    either s.reset_asked _ _
    (either reset _ _ (ends (answer (Confirm ∷ Expect (n + 1) ∷ []) (counted n (await.confirmed s))) (λ up down. cc)) (ends (refuse n refusal.ResetUnanswered s) (λ up down. cc)))
    (either reset _ _ (ends (refuse n refusal.ResetAsked s) (λ up down. cc)) (up_by (nat_lt s.expected n) o n s))

logon_closes : (heart : Option ℕ) (o : Options) (reset : Bool) (n : ℕ) (s : MachineState) → Closes s (await.logon_answer heart o reset n s)
logon_closes None o reset n s = ends _ (λ up down. cc)
logon_closes (Some heart) o reset n s = either (reset && not (n == 1)) _ _ (ends (refuse n refusal.BadLogon s) (λ up down. cc)) (taken_closes s.role o reset n heart s)

first_by_number : (o : Options) (number : Option ℕ) (s : MachineState) (i : Inbound) → Closes s (await.by_number o number s i)
first_by_number o None s i = ends _ (λ up down. cc)
first_by_number o (Some n) s i =
    either (await.is_too_low o n s i.reset) _ _ (ends (refuse_with (text.TooLow s.expected n) n refusal.TooLow s) (λ up down. cc))
    (either (not (await.is_addressed o.identity i.header)) _ _ (ends (refuse n refusal.CompId s) (λ up down. cc))
    (either (not (await.is_near o.latency s.reading i.sent)) _ _ (ends (refuse n refusal.SendingTime s) (λ up down. cc))
    (logon_closes (await.heart_in o i.verdict) o i.reset n s)))

await_closes : (o : Options) (s : MachineState) (i : Inbound) → Closes s (await.await_logon o s i)
await_closes o s i =
    either (not (names i.header.type (codes "A"))) _ _ (ends (refuse (number_or_0 i.header.number) refusal.NotLogon s) (λ up down. cc))
    (either (not (is_of_session o.identity i.header)) _ _ (ends (refuse (number_or_0 i.header.number) refusal.BeginString s) (λ up down. cc))
    (first_by_number o i.header.number s i))

-- ---- later messages

reset_closes : (f : FindingSeen) (n : ℕ) (i : Inbound) (s : MachineState) → Closes s (on.reset_by f n i s)
reset_closes found.Fine n i s =
    either (nat_le s.expected (on.new_seq_no_in i.verdict)) _ _ (ends (answer (Expect (on.new_seq_no_in i.verdict) ∷ []) (expecting (on.new_seq_no_in i.verdict) s)) (λ up down. absurd (up down)))
    (ends (answer (reject n (type_in i.header) (fault_of 5 36) ∷ []) (sent s)) (λ up down. absurd (up down)))
reset_closes (found.Reject fault) n i s = ends _ (λ up down. absurd (up down))
reset_closes (found.RejectAndClose fault text cause) n i s = ends _ (λ up down. cc)

ask_by : (t : Bool) (o : Options) (n : ℕ) (s : MachineState) → Closes s (if t then answer (ask_step o n s ∷ []) (asked o n s) else answer [] s)
ask_by true o n s = ends _ (λ up down. absurd (up down))
ask_by false o n s = ends _ (λ up down. absurd (up down))

ask_closes : (o : Options) (n : ℕ) (s : MachineState) → Closes s (on.then_ask o n [] s)
ask_closes o n s = ask_by (is_none s.resend_requested) o n s

serve_closes : (o : Options) (n : ℕ) (s : MachineState) (from to : ℕ) → Closes s (on.then_ask o n (Serve from to ∷ []) s)
serve_closes o n s from to = either (is_none s.resend_requested) _ _ (ends (answer (Serve from to ∷ ask_step o n s ∷ []) (asked o n s)) (λ up down. absurd (up down))) (ends (answer (Serve from to ∷ []) s) (λ up down. absurd (up down)))

stash_closes : (o : Options) (n : ℕ) (s : MachineState) → Closes s (on.then_ask o n (Stash ∷ []) s)
stash_closes o n s = either (is_none s.resend_requested) _ _ (ends (answer (Stash ∷ ask_step o n s ∷ []) (asked o n s)) (λ up down. absurd (up down))) (ends (answer (Stash ∷ []) s) (λ up down. absurd (up down)))

out_by : (p : Phase) (n : ℕ) (s : MachineState) → Closes s (answer (on.logout_steps p n) (on.logged_out p s))
out_by Down n s = ends _ (λ up down. cc)
out_by AwaitLogon n s = ends _ (λ up down. cc)
out_by Up n s = ends _ (λ up down. cc)
out_by LogoutSent n s = ends _ (λ up down. cc)

logout_by : (p : Phase) (n : ℕ) (s : MachineState) → Closes s (answer (Expect (n + 1) ∷ on.logout_steps p n) (on.logged_out p (counted n s)))
logout_by Down n s = ends _ (λ up down. cc)
logout_by AwaitLogon n s = ends _ (λ up down. cc)
logout_by Up n s = ends _ (λ up down. cc)
logout_by LogoutSent n s = ends _ (λ up down. cc)

served_closes : (a : AdminSeen) (o : Options) (n : ℕ) (s : MachineState) → Closes s (on.served_early a o n s)
served_closes (admin.Heartbeat id) o n s = ask_closes o n s
served_closes (admin.TestRequest id) o n s = ask_closes o n s
served_closes (admin.ResendRequest from to) o n s = serve_closes o n s from to
served_closes (admin.Reject about) o n s = ask_closes o n s
served_closes (admin.SequenceReset next gap) o n s = ask_closes o n s
served_closes admin.Logout o n s = out_by s.phase n s
served_closes (admin.Logon heart reset version) o n s = ask_closes o n s

early_closes : (v : VerdictSeen) (o : Options) (n : ℕ) (s : MachineState) → Closes s (on.early_of v o n s)
early_closes App o n s = ask_closes o n s
early_closes (Admin a) o n s = served_closes a o n s
early_closes (Bad fault) o n s = ask_closes o n s

early_by_closes : (f : FindingSeen) (o : Options) (n : ℕ) (i : Inbound) (s : MachineState) → Closes s (on.early_by f o n i s)
early_by_closes found.Fine o n i s = early_closes i.verdict o n s
early_by_closes (found.Reject fault) o n i s = ask_closes o n s
early_by_closes (found.RejectAndClose fault text cause) o n i s = ask_closes o n s

again_closes : (reset : Bool) (n : ℕ) (s : MachineState) → Closes s (on.logged_on_again reset n s)
again_closes true n s = ends _ (λ up down. cc)
again_closes false n s = ends _ (λ up down. absurd (up down))

session_closes : (a : AdminSeen) (n : ℕ) (i : Inbound) (s : MachineState) → Closes s (on.session_message a n i s)
session_closes (admin.Heartbeat id) n i s = ends _ (λ up down. absurd (up down))
session_closes (admin.TestRequest id) n i s = ends _ (λ up down. absurd (up down))
session_closes (admin.ResendRequest from to) n i s = ends _ (λ up down. absurd (up down))
session_closes (admin.Reject about) n i s = ends _ (λ up down. absurd (up down))
session_closes (admin.SequenceReset next gap) n i s = either (nat_lt n next) _ _ (ends (answer (Expect next ∷ []) (expecting next s)) (λ up down. absurd (up down))) (ends (on.rejected (fault_of 5 36) n i s) (λ up down. absurd (up down)))
session_closes admin.Logout n i s = logout_by s.phase n s
session_closes (admin.Logon heart reset version) n i s = again_closes i.reset n s

type_closes : (v : VerdictSeen) (n : ℕ) (i : Inbound) (s : MachineState) → Closes s (on.by_type v n i s)
type_closes App n i s = ends _ (λ up down. absurd (up down))
type_closes (Admin a) n i s = session_closes a n i s
type_closes (Bad fault) n i s = ends _ (λ up down. absurd (up down))

order_closes : (f : FindingSeen) (n : ℕ) (i : Inbound) (s : MachineState) → Closes s (on.in_order_by f n i s)
order_closes found.Fine n i s = type_closes i.verdict n i s
order_closes (found.Reject fault) n i s = ends _ (λ up down. absurd (up down))
order_closes (found.RejectAndClose fault text cause) n i s = ends _ (λ up down. cc)

later_by_number : (o : Options) (number : Option ℕ) (i : Inbound) (s : MachineState) → Closes s (on.by_number o number i s)
later_by_number o None i s = ends _ (λ up down. cc)
later_by_number o (Some n) i s =
    either (on.is_reset i) _ _ (reset_closes (checked o s i) n i s)
    (either (nat_lt s.expected n) _ _ (either (on.is_early i) _ _ (early_by_closes (checked o s i) o n i s) (either i.full _ _ (ask_closes o n s) (stash_closes o n s)))
    (either (nat_lt n s.expected) _ _ (either (names i.header.poss_dup (codes "Y")) _ _ (ends (silent s) (λ up down. absurd (up down))) (ends (refuse_with (text.TooLow s.expected n) n refusal.TooLow s) (λ up down. cc)))
    (order_closes (checked o s i) n i s)))

on_closes : (o : Options) (s : MachineState) (i : Inbound) → Closes s (on.logged_on o s i)
on_closes o s i = either (not (is_of_session o.identity i.header)) _ _ (ends (refuse_with text.BeginString (number_or_0 i.header.number) refusal.BeginString s) (λ up down. cc)) (later_by_number o i.header.number i s)

pub message_closes : (p : Phase) (o : Options) (s : MachineState) (i : Inbound) → Closes s (decide.message p o s i)
message_closes Down o s i = ends _ (λ up down. absurd (up down))
message_closes AwaitLogon o s i = await_closes o s i
message_closes Up o s i = on_closes o s i
message_closes LogoutSent o s i = on_closes o s i

-- ---- the clock, and the others

window_closes : (p : Phase) (now : ℕ) (s : MachineState) → Closes s (clocks.out_of_window p now s)
window_closes Down now s = ends _ (λ up down. absurd (up down))
window_closes AwaitLogon now s = ends _ (λ up down. cc)
window_closes Up now s = ends _ (λ up down. cc)
window_closes LogoutSent now s = ends _ (λ up down. cc)

due_closes : (d : Option Due) (s : MachineState) → Closes s (clocks.due_answer d s)
due_closes None s = ends _ (λ up down. absurd (up down))
due_closes (Some due.LogonLate) s = ends _ (λ up down. cc)
due_closes (Some due.LogoutLate) s = ends _ (λ up down. cc)
due_closes (Some (due.Silent since)) s = ends _ (λ up down. cc)
due_closes (Some due.TestRequest) s = ends _ (λ up down. absurd (up down))
due_closes (Some due.Heartbeat) s = ends _ (λ up down. absurd (up down))

pub looked_closes : (o : Options) (s : MachineState) (inside : Bool) → Closes s (clocks.clock o s inside)
looked_closes o s false = window_closes s.phase s.reading s
looked_closes o s true = due_closes (clocks.due_at o s s.reading) s

pub moved_closes : (gap : Option Requested) (o : Options) (s : MachineState) → Closes s (decide.moved_in gap o s)
moved_closes None o s = ends _ (λ up down. absurd (up down))
moved_closes (Some gap) o s =
    either (nat_lt gap.above s.expected) _ _ (ends (silent (record s { resend_requested = None })) (λ up down. absurd (up down)))
    (either (nat_lt 0 o.chunk && nat_lt gap.end s.expected) _ _ (ends (answer (ask_step o gap.above s ∷ []) (asked o gap.above s)) (λ up down. absurd (up down))) (ends (silent s) (λ up down. absurd (up down))))

pub left_closes : (p : Phase) (s : MachineState) → Closes s (decide.leave p s)
left_closes Down s = ends _ (λ up down. absurd (up down))
left_closes AwaitLogon s = ends _ (λ up down. absurd (up down))
left_closes Up s = ends _ (λ up down. cc)
left_closes LogoutSent s = ends _ (λ up down. absurd (up down))

-- every event but the end of a connection
pub every_closes : (o : Options) (s : MachineState) (e : EventSeen) → e ≢ Ended → Closes s (decide.answer_to o s e)
every_closes o s (Begin role now) live = ends _ (λ up down. cc)
every_closes o s First live = ends _ (λ up down. absurd (up down))
every_closes o s (Frame i) live = ends _ (message_closes s.phase o (heard s) i).says
every_closes o s (Moved waiting) live = moved_closes s.resend_requested o s
every_closes o s (Clock now inside) live = ends _ (looked_closes o (read_clock now s) inside).says
every_closes o s (Leave now) live = ends _ (left_closes s.phase (read_clock now s)).says
every_closes o s Ended live = absurd (live refl)
every_closes o s (Wrote now) live = ends _ (λ up down. absurd (up down))
