-- Behind every answer the times of a state are readings of the clock.
use Rattle.std.proofs.Common.{◌≡◌, ℕ, ◌+◌, ◌==◌, ◌&&◌, Bool, true, false, nat_lt, nat_le, if◌then◌else◌, List, [], ◌∷◌, ◌++◌, codes, Option, Some, None, sym, ap, subst, arith}
use Rattle.std.specs.Prelude.{not, is_none}
use Rattle.fix_admin.specs.Values.{fault_of}
use Rattle.fix_admin.specs.declared.say.LogoutText.TheVariants as text
use Rattle.fix_machine.specs.declared.event.Refusal.TheVariants as refusal
use Rattle.fix_admin.specs.Admin as admin
use Rattle.fix_admin.specs.Admin.{AdminSeen}
use Rattle.fix_machine.specs.declared.state.Phase.{Phase}
use Rattle.fix_machine.specs.declared.state.Phase.TheVariants.{Down, AwaitLogon, Up, LogoutSent}
use Rattle.fix_machine.specs.declared.state.Role.{Role}
use Rattle.fix_machine.specs.declared.state.Role.TheVariants.{Acceptor, Initiator}
use Rattle.fix_machine.specs.declared.state.Requested.{Requested}
use Rattle.fix_machine.specs.declared.clock.Due.{Due}
use Rattle.fix_machine.specs.declared.clock.Due.TheVariants as due
use Rattle.fix_machine.specs.State.{Options, MachineState, IsTimed, sent, counted, emptied, up, expecting, read_clock, begun_as, heard}
use Rattle.fix_machine.specs.Event.{Inbound, VerdictSeen, App, Admin, Bad, StepSeen, Serve, Stash, Expect, Confirm}
use Rattle.fix_machine.specs.declared.answer.Answer.{Answer}
use Rattle.fix_machine.specs.Answer.{Answered, Texts, answer, answered_by, asked, ask_step, refuse, refuse_with, reject, silent, names, is_of_session, number_or_0, type_in}
use Rattle.fix_machine.specs.Checks as found
use Rattle.fix_machine.specs.Checks.{FindingSeen, checked}
use Rattle.fix_machine.specs.AwaitLogon as await
use Rattle.fix_machine.specs.LoggedOn as on
use Rattle.fix_machine.specs.Clock as clocks
use Rattle.fix_machine.specs.Decide as decide

-- the state behind the answer
pub record IsTimedBehind (x : Answered) : Type 0 where
  pub timed : IsTimed x.next

record IsTimedState (s : MachineState) : Type 0 where
  pub timed : IsTimed s

ends : (x : Answered) → IsTimed x.next → IsTimedBehind x
ends x h = record { timed = h }

either : (b : Bool) (x y : Answered) → IsTimedBehind x → IsTimedBehind y → IsTimedBehind (if b then x else y)
either true x y p q = p
either false x y p q = q

either_state : (b : Bool) (s t : MachineState) → IsTimedState s → IsTimedState t → IsTimedState (if b then s else t)
either_state true s t p q = p
either_state false s t p q = q

-- ---- changes

pub sent_timed : (s : MachineState) → IsTimed s → IsTimed (sent s)
sent_timed s h = record { reading = h.reading; begun = h.begun; sent_at = h.reading; read_at = h.read_at; left_at = h.left_at; test_request = h.test_request }

pub clock_timed : (now : ℕ) (s : MachineState) → IsTimed s → IsTimed (read_clock now s)
clock_timed now s h = record { reading = omega arith; begun = h.begun; sent_at = h.sent_at; read_at = h.read_at; left_at = h.left_at; test_request = h.test_request }

pub heard_timed : (s : MachineState) → IsTimed s → IsTimed (heard s)
heard_timed s h = record { reading = h.reading; begun = h.begun; sent_at = h.sent_at; read_at = h.reading; left_at = h.left_at; test_request = tt }

pub begun_timed : (o : Options) (r : Role) (s : MachineState) → IsTimed s → IsTimed (begun_as o r s)
begun_timed o r s h = record { reading = h.reading; begun = h.reading; sent_at = h.reading; read_at = h.reading; left_at = h.reading; test_request = tt }

-- ---- the first message

count_or_ask_timed : (o : Options) (n : ℕ) (s : MachineState) → IsTimed s → IsTimed (await.counted_or_asked o n s)
count_or_ask_timed o n s h = (either_state (nat_lt s.expected n) (asked o n s) (counted n s) (record { timed = sent_timed s h }) (record { timed = h })).timed

taken_timed : (r : Role) (o : Options) (reset : Bool) (n heart : ℕ) (s : MachineState) → IsTimed s → IsTimedBehind (await.taken r o reset n heart s)
taken_timed Acceptor o reset n heart s h =
    either reset _ _ (ends (await.reset_answer o n heart s) (sent_timed s h))
    (either o.reset_on_logon _ _ (ends (await.own_reset_answer o n heart s) (count_or_ask_timed o n (await.answered heart (emptied s)) (sent_timed s h)))
    (ends (await.plain_answer o n heart s) (count_or_ask_timed o n (await.answered heart s) (sent_timed s h))))
taken_timed Initiator o reset n heart s h =
    either s.reset_asked _ _
    (either reset _ _ (ends (answer (Confirm ∷ Expect (n + 1) ∷ []) (counted n (await.confirmed s))) h) (ends (refuse n refusal.ResetUnanswered s) h))
    (either reset _ _ (ends (refuse n refusal.ResetAsked s) h) (ends (answer (await.count_or_ask o n (up s) ∷ []) (await.counted_or_asked o n (up s))) (count_or_ask_timed o n (up s) h)))

logon_timed : (heart : Option ℕ) (o : Options) (reset : Bool) (n : ℕ) (s : MachineState) → IsTimed s → IsTimedBehind (await.logon_answer heart o reset n s)
logon_timed None o reset n s h = ends _ h
logon_timed (Some heart) o reset n s h = either (reset && not (n == 1)) _ _ (ends (refuse n refusal.BadLogon s) h) (taken_timed s.role o reset n heart s h)

first_by_number : (o : Options) (number : Option ℕ) (s : MachineState) (i : Inbound) → IsTimed s → IsTimedBehind (await.by_number o number s i)
first_by_number o None s i h = ends _ h
first_by_number o (Some n) s i h =
    either (await.is_too_low o n s i.reset) _ _ (ends (refuse_with (text.TooLow s.expected n) n refusal.TooLow s) (sent_timed s h))
    (either (not (await.is_addressed o.identity i.header)) _ _ (ends (refuse n refusal.CompId s) h)
    (either (not (await.is_near o.latency s.reading i.sent)) _ _ (ends (refuse n refusal.SendingTime s) h)
    (logon_timed (await.heart_in o i.verdict) o i.reset n s h)))

await_timed : (o : Options) (s : MachineState) (i : Inbound) → IsTimed s → IsTimedBehind (await.await_logon o s i)
await_timed o s i h =
    either (not (names i.header.type (codes "A"))) _ _ (ends (refuse (number_or_0 i.header.number) refusal.NotLogon s) h)
    (either (not (is_of_session o.identity i.header)) _ _ (ends (refuse (number_or_0 i.header.number) refusal.BeginString s) h)
    (first_by_number o i.header.number s i h))

-- ---- later messages

reset_timed : (f : FindingSeen) (n : ℕ) (i : Inbound) (s : MachineState) → IsTimed s → IsTimedBehind (on.reset_by f n i s)
reset_timed found.Fine n i s h =
    either (nat_le s.expected (on.new_seq_no_in i.verdict)) _ _ (ends (answer (Expect (on.new_seq_no_in i.verdict) ∷ []) (expecting (on.new_seq_no_in i.verdict) s)) h)
    (ends (answer (reject n (type_in i.header) (fault_of 5 36) ∷ []) (sent s)) (sent_timed s h))
reset_timed (found.Reject fault) n i s h = ends _ (sent_timed s h)
reset_timed (found.RejectAndClose fault text cause) n i s h = ends _ (sent_timed s h)

ask_timed : (o : Options) (n : ℕ) (s : MachineState) (steps : List StepSeen) → IsTimed s → IsTimedBehind (on.then_ask o n steps s)
ask_timed o n s steps h = either (is_none s.resend_requested) _ _ (ends (answer (steps ++ ask_step o n s ∷ []) (asked o n s)) (sent_timed s h)) (ends (answer steps s) h)

logged_out_timed : (p : Phase) (s : MachineState) → IsTimed s → IsTimed (on.logged_out p s)
logged_out_timed Down s h = h
logged_out_timed AwaitLogon s h = h
logged_out_timed Up s h = sent_timed s h
logged_out_timed LogoutSent s h = h

served_timed : (a : AdminSeen) (o : Options) (n : ℕ) (s : MachineState) → IsTimed s → IsTimedBehind (on.served_early a o n s)
served_timed (admin.Heartbeat id) o n s h = ask_timed o n s [] h
served_timed (admin.TestRequest id) o n s h = ask_timed o n s [] h
served_timed (admin.ResendRequest from to) o n s h = ask_timed o n s (Serve from to ∷ []) h
served_timed (admin.Reject about) o n s h = ask_timed o n s [] h
served_timed (admin.SequenceReset next gap) o n s h = ask_timed o n s [] h
served_timed admin.Logout o n s h = ends _ (logged_out_timed s.phase s h)
served_timed (admin.Logon heart reset version) o n s h = ask_timed o n s [] h

early_timed : (v : VerdictSeen) (o : Options) (n : ℕ) (s : MachineState) → IsTimed s → IsTimedBehind (on.early_of v o n s)
early_timed App o n s h = ask_timed o n s [] h
early_timed (Admin a) o n s h = served_timed a o n s h
early_timed (Bad fault) o n s h = ask_timed o n s [] h

early_by_timed : (f : FindingSeen) (o : Options) (n : ℕ) (i : Inbound) (s : MachineState) → IsTimed s → IsTimedBehind (on.early_by f o n i s)
early_by_timed found.Fine o n i s h = early_timed i.verdict o n s h
early_by_timed (found.Reject fault) o n i s h = ask_timed o n s [] h
early_by_timed (found.RejectAndClose fault text cause) o n i s h = ask_timed o n s [] h

again_timed : (reset : Bool) (n : ℕ) (s : MachineState) → IsTimed s → IsTimedBehind (on.logged_on_again reset n s)
again_timed true n s h = ends _ (sent_timed s h)
again_timed false n s h = ends _ h

session_timed : (a : AdminSeen) (n : ℕ) (i : Inbound) (s : MachineState) → IsTimed s → IsTimedBehind (on.session_message a n i s)
session_timed (admin.Heartbeat id) n i s h = ends _ h
session_timed (admin.TestRequest id) n i s h = ends _ (sent_timed s h)
session_timed (admin.ResendRequest from to) n i s h = ends _ h
session_timed (admin.Reject about) n i s h = ends _ h
session_timed (admin.SequenceReset next gap) n i s h = either (nat_lt n next) _ _ (ends (answer (Expect next ∷ []) (expecting next s)) h) (ends (on.rejected (fault_of 5 36) n i s) (sent_timed s h))
session_timed admin.Logout n i s h = ends _ (logged_out_timed s.phase (counted n s) h)
session_timed (admin.Logon heart reset version) n i s h = again_timed i.reset n s h

type_timed : (v : VerdictSeen) (n : ℕ) (i : Inbound) (s : MachineState) → IsTimed s → IsTimedBehind (on.by_type v n i s)
type_timed App n i s h = ends _ h
type_timed (Admin a) n i s h = session_timed a n i s h
type_timed (Bad fault) n i s h = ends _ (sent_timed s h)

order_timed : (f : FindingSeen) (n : ℕ) (i : Inbound) (s : MachineState) → IsTimed s → IsTimedBehind (on.in_order_by f n i s)
order_timed found.Fine n i s h = type_timed i.verdict n i s h
order_timed (found.Reject fault) n i s h = ends _ (sent_timed s h)
order_timed (found.RejectAndClose fault text cause) n i s h = ends _ (sent_timed s h)

later_by_number : (o : Options) (number : Option ℕ) (i : Inbound) (s : MachineState) → IsTimed s → IsTimedBehind (on.by_number o number i s)
later_by_number o None i s h = ends _ (sent_timed s h)
later_by_number o (Some n) i s h =
    either (on.is_reset i) _ _ (reset_timed (checked o s i) n i s h)
    (either (nat_lt s.expected n) _ _ (either (on.is_early i) _ _ (early_by_timed (checked o s i) o n i s h) (either i.full _ _ (ask_timed o n s [] h) (ask_timed o n s (Stash ∷ []) h)))
    (either (nat_lt n s.expected) _ _ (either (names i.header.poss_dup (codes "Y")) _ _ (ends (silent s) h) (ends (refuse_with (text.TooLow s.expected n) n refusal.TooLow s) (sent_timed s h)))
    (order_timed (checked o s i) n i s h)))

on_timed : (o : Options) (s : MachineState) (i : Inbound) → IsTimed s → IsTimedBehind (on.logged_on o s i)
on_timed o s i h = either (not (is_of_session o.identity i.header)) _ _ (ends (refuse_with text.BeginString (number_or_0 i.header.number) refusal.BeginString s) (sent_timed s h)) (later_by_number o i.header.number i s h)

pub message_timed : (p : Phase) (o : Options) (s : MachineState) (i : Inbound) → IsTimed s → IsTimedBehind (decide.message p o s i)
message_timed Down o s i h = ends _ h
message_timed AwaitLogon o s i h = await_timed o s i h
message_timed Up o s i h = on_timed o s i h
message_timed LogoutSent o s i h = on_timed o s i h

-- ---- the clock, and the others

window_timed : (p : Phase) (now : ℕ) (s : MachineState) → IsTimed s → IsTimedBehind (clocks.out_of_window p now s)
window_timed Down now s h = ends _ h
window_timed AwaitLogon now s h = ends _ h
window_timed Up now s h = ends _ (sent_timed s h)
window_timed LogoutSent now s h = ends _ h

due_timed : (d : Option Due) (s : MachineState) → IsTimed s → IsTimedBehind (clocks.due_answer d s)
due_timed None s h = ends _ h
due_timed (Some due.LogonLate) s h = ends _ h
due_timed (Some due.LogoutLate) s h = ends _ h
due_timed (Some (due.Silent since)) s h = ends _ h
due_timed (Some due.TestRequest) s h = ends _ (record { reading = h.reading; begun = h.begun; sent_at = h.reading; read_at = h.read_at; left_at = h.left_at; test_request = h.reading })
due_timed (Some due.Heartbeat) s h = ends _ (sent_timed s h)

pub looked_timed : (o : Options) (s : MachineState) (inside : Bool) → IsTimed s → IsTimedBehind (clocks.clock o s inside)
looked_timed o s false h = window_timed s.phase s.reading s h
looked_timed o s true h = due_timed (clocks.due_at o s s.reading) s h

pub moved_timed : (gap : Option Requested) (o : Options) (s : MachineState) → IsTimed s → IsTimedBehind (decide.moved_in gap o s)
moved_timed None o s h = ends _ h
moved_timed (Some gap) o s h =
    either (nat_lt gap.above s.expected) _ _ (ends (silent (record s { resend_requested = None })) h)
    (either (nat_lt 0 o.chunk && nat_lt gap.end s.expected) _ _ (ends (answer (ask_step o gap.above s ∷ []) (asked o gap.above s)) (sent_timed s h)) (ends (silent s) h))

pub left_timed : (p : Phase) (s : MachineState) → IsTimed s → IsTimedBehind (decide.leave p s)
left_timed Down s h = ends _ h
left_timed AwaitLogon s h = ends _ h
left_timed Up s h = ends _ (record { reading = h.reading; begun = h.begun; sent_at = h.reading; read_at = h.read_at; left_at = h.reading; test_request = h.test_request })
left_timed LogoutSent s h = ends _ h

-- what the code answers
pub next_timed : (t : Texts) (a : Answer) (x : Answered) → answered_by t a ≡ x → IsTimed x.next → IsTimed a.next
next_timed t a x e h = subst (λ (s : MachineState). IsTimed s) (sym (ap (λ (y : Answered). y.next) e)) h

abbrev pub no_texts : Texts
no_texts = record { type = []; id = [] }
