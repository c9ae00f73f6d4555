-- The expected number never falls, but where a reset by Logon is answered.
use Rattle.std.proofs.Common.{◌≡◌, ℕ, ◌≤◌, ◌+◌, ◌==◌, nat_lt, nat_le, codes, ◌&&◌, Bool, true, false, if◌then◌else◌, [], ◌∷◌, Option, Some, None, refl, arith}
use Rattle.std.specs.Prelude.{not}
use Rattle.std.proofs.lemmas.Bool.{leb-true, ltb-true}
use Rattle.std.proofs.lemmas.Bool.Decides.{nat_tests}
use Rattle.fix_admin.specs.Admin as admin
use Rattle.fix_admin.specs.Admin.{AdminSeen}
use Rattle.fix_admin.specs.Values.{fault_of}
use Rattle.fix_admin.specs.declared.say.LogoutText.TheVariants as text
use Rattle.fix_machine.specs.declared.event.Refusal.TheVariants as refusal
use Rattle.fix_machine.specs.declared.state.Phase.{Phase}
use Rattle.fix_machine.specs.declared.state.Phase.TheVariants.{Down, AwaitLogon, Up, LogoutSent}
use Rattle.fix_machine.specs.declared.state.Role.{Role}
use Rattle.fix_machine.specs.declared.state.Role.TheVariants.{Acceptor, Initiator}
use Rattle.fix_machine.specs.State.{Options, MachineState, heard, counted, up, expecting, sent}
use Rattle.fix_machine.specs.Event.{Inbound, VerdictSeen, App, Admin, Bad, EventSeen, Begin, First, Frame, Moved, Clock, Leave, Ended, Wrote, Expect, Confirm}
use Rattle.fix_machine.specs.Answer.{Answered, answer, names, refuse, refuse_with, reject, type_in, number_or_0, is_of_session, asked}
use Rattle.fix_machine.specs.Checks as found
use Rattle.fix_machine.specs.Checks.{FindingSeen, checked}
use Rattle.fix_machine.specs.AwaitLogon as await
use Rattle.fix_machine.specs.LoggedOn as on
use Rattle.fix_machine.specs.Decide.{answer_to, message}
use Rattle.fix_machine.specs.Numbers.{Rises, rises, resets, confirms}
use Rattle.fix_machine.proofs.OrderLemmas.{no_message, high_passive, low_kept}

rises_if : {s : MachineState} (b : Bool) (x y : Answered) → (b ≡ true → Rises s x) → (b ≡ false → Rises s y) → Rises s (if b then x else y)
rises_if true x y p q = p refl
rises_if false x y p q = q refl

same : {s : MachineState} (x : Answered) → x.next.expected ≡ s.expected → Rises s x
same x e = rises (omega (arith, e))

not_less : (a b : ℕ) → nat_lt a b ≡ false → b ≤ a
not_less a b e = grind (arith, nat_tests)

-- ---- the first message

ends_in : (b : Bool) (o : Options) (n : ℕ) (s : MachineState) → s.expected ≤ n → s.expected ≤ (if b then asked o n s else counted n s).expected
ends_in true o n s le = omega arith
ends_in false o n s le = omega arith

plain_low : (b r : Bool) → (b && (not r && not (false && true))) ≡ false → r ≡ false → b ≡ false
plain_low true true e f = cc
plain_low true false e f = cc
plain_low false r e f = refl

role_low : (b r c : Bool) → (b && (not r && not (c && false))) ≡ false → r ≡ false → b ≡ false
role_low true true c e f = cc
role_low true false true e f = cc
role_low true false false e f = cc
role_low false r c e f = refl

acceptor_rises : (o : Options) (reset each : Bool) (n heart : ℕ) (s : MachineState) → (nat_lt n s.expected && (not reset && not (each && true))) ≡ false → Rises s (if reset then await.reset_answer o n heart s else (if each then await.own_reset_answer o n heart s else await.plain_answer o n heart s))
acceptor_rises o true each n heart s low = resets _ refl
acceptor_rises o false true n heart s low = resets _ refl
acceptor_rises o false false n heart s low = rises (ends_in (nat_lt s.expected n) o n (await.answered heart s) (not_less n s.expected (plain_low (nat_lt n s.expected) false low refl)))

initiator_rises : (asks : Bool) (o : Options) (reset : Bool) (n : ℕ) (s : MachineState) → (nat_lt n s.expected && (not reset && not (o.reset_on_logon && false))) ≡ false
    → Rises s (if asks then (if reset then answer (Confirm ∷ Expect (n + 1) ∷ []) (counted n (await.confirmed s)) else refuse n refusal.ResetUnanswered s) else (if reset then refuse n refusal.ResetAsked s else answer (await.count_or_ask o n (up s) ∷ []) (await.counted_or_asked o n (up s))))
initiator_rises true o true n s low = confirms _ refl
initiator_rises true o false n s low = same _ refl
initiator_rises false o true n s low = same _ refl
initiator_rises false o false n s low = rises (ends_in (nat_lt s.expected n) o n (up s) (not_less n s.expected (role_low (nat_lt n s.expected) false o.reset_on_logon low refl)))

taken_rises : (r : Role) (o : Options) (reset : Bool) (n heart : ℕ) (s : MachineState) → (nat_lt n s.expected && (not reset && not (o.reset_on_logon && await.is_acceptor r))) ≡ false → Rises s (await.taken r o reset n heart s)
taken_rises Acceptor o reset n heart s low = acceptor_rises o reset o.reset_on_logon n heart s low
taken_rises Initiator o reset n heart s low = initiator_rises s.reset_asked o reset n s low

logon_rises : (heart : Option ℕ) (o : Options) (reset : Bool) (n : ℕ) (s : MachineState) → await.is_too_low o n s reset ≡ false → Rises s (await.logon_answer heart o reset n s)
logon_rises None o reset n s low = same _ refl
logon_rises (Some heart) o reset n s low = rises_if (reset && not (n == 1)) (refuse n refusal.BadLogon s) (await.taken s.role o reset n heart s) (λ e. same _ refl) (λ e. taken_rises s.role o reset n heart s low)

first_by_number : (o : Options) (number : Option ℕ) (s : MachineState) (i : Inbound) → Rises s (await.by_number o number s i)
first_by_number o None s i = same _ refl
first_by_number o (Some n) s i =
    rises_if (await.is_too_low o n s i.reset) (refuse_with (text.TooLow s.expected n) n refusal.TooLow s) (if not (await.is_addressed o.identity i.header) then refuse n refusal.CompId s else (if not (await.is_near o.latency s.reading i.sent) then refuse n refusal.SendingTime s else await.logon_answer (await.heart_in o i.verdict) o i.reset n s)) (λ e. same _ refl)
    (λ low. rises_if (not (await.is_addressed o.identity i.header)) (refuse n refusal.CompId s) (if not (await.is_near o.latency s.reading i.sent) then refuse n refusal.SendingTime s else await.logon_answer (await.heart_in o i.verdict) o i.reset n s) (λ e. same _ refl)
    (λ e. rises_if (not (await.is_near o.latency s.reading i.sent)) (refuse n refusal.SendingTime s) (await.logon_answer (await.heart_in o i.verdict) o i.reset n s) (λ f. same _ refl)
    (λ f. logon_rises (await.heart_in o i.verdict) o i.reset n s low)))

await_rises : (o : Options) (s : MachineState) (i : Inbound) → Rises s (await.await_logon o s i)
await_rises o s i =
    rises_if (not (names i.header.type (codes "A"))) (refuse (number_or_0 i.header.number) refusal.NotLogon s) (if not (is_of_session o.identity i.header) then refuse (number_or_0 i.header.number) refusal.BeginString s else await.by_number o i.header.number s i) (λ e. same _ refl)
    (λ e. rises_if (not (is_of_session o.identity i.header)) (refuse (number_or_0 i.header.number) refusal.BeginString s) (await.by_number o i.header.number s i) (λ f. same _ refl) (λ f. first_by_number o i.header.number s i))

-- ---- later messages

reset_rises : (f : FindingSeen) (n : ℕ) (i : Inbound) (s : MachineState) → Rises s (on.reset_by f n i s)
reset_rises found.Fine n i s =
    let m = on.new_seq_no_in i.verdict in
    rises_if (nat_le s.expected m) (answer (Expect m ∷ []) (expecting m s)) (answer (reject n (type_in i.header) (fault_of 5 36) ∷ []) (sent s)) (λ e. rises (leb-true s.expected m e)) (λ e. same _ refl)
reset_rises (found.Reject fault) n i s = same _ refl
reset_rises (found.RejectAndClose fault text cause) n i s = same _ refl

one_more : (n : ℕ) (s : MachineState) (x : Answered) → n ≡ s.expected → x.next.expected ≡ n + 1 → Rises s x
one_more n s x e f = rises (omega (arith, e, f))

out_next : (p : Phase) (s : MachineState) → (on.logged_out p s).expected ≡ s.expected
out_next Down s = refl
out_next AwaitLogon s = refl
out_next Up s = refl
out_next LogoutSent s = refl

again_rises : (reset : Bool) (n : ℕ) (s : MachineState) → n ≡ s.expected → Rises s (on.logged_on_again reset n s)
again_rises true n s e = same _ refl
again_rises false n s e = one_more n s _ e refl

session_rises : (a : AdminSeen) (n : ℕ) (i : Inbound) (s : MachineState) → n ≡ s.expected → Rises s (on.session_message a n i s)
session_rises (admin.Heartbeat id) n i s e = one_more n s _ e refl
session_rises (admin.TestRequest id) n i s e = one_more n s _ e refl
session_rises (admin.ResendRequest from to) n i s e = one_more n s _ e refl
session_rises (admin.Reject about) n i s e = one_more n s _ e refl
session_rises (admin.SequenceReset next gap) n i s e =
    rises_if (nat_lt n next) (answer (Expect next ∷ []) (expecting next s)) (on.rejected (fault_of 5 36) n i s) (λ f. let lt = ltb-true n next f in rises (omega (arith, e, lt))) (λ f. one_more n s _ e refl)
session_rises admin.Logout n i s e = one_more n s _ e (out_next s.phase (counted n s))
session_rises (admin.Logon heart reset version) n i s e = again_rises i.reset n s e

type_rises : (v : VerdictSeen) (n : ℕ) (i : Inbound) (s : MachineState) → n ≡ s.expected → Rises s (on.by_type v n i s)
type_rises App n i s e = one_more n s _ e refl
type_rises (Admin a) n i s e = session_rises a n i s e
type_rises (Bad fault) n i s e = one_more n s _ e refl

order_rises : (f : FindingSeen) (n : ℕ) (i : Inbound) (s : MachineState) → n ≡ s.expected → Rises s (on.in_order_by f n i s)
order_rises found.Fine n i s e = type_rises i.verdict n i s e
order_rises (found.Reject fault) n i s e = one_more n s _ e refl
order_rises (found.RejectAndClose fault text cause) n i s e = one_more n s _ e refl

neither : (a b : ℕ) → nat_lt a b ≡ false → nat_lt b a ≡ false → b ≡ a
neither a b p q = grind (arith, nat_tests)

later_by_number : (o : Options) (number : Option ℕ) (i : Inbound) (s : MachineState) → Rises s (on.by_number o number i s)
later_by_number o None i s = same _ refl
later_by_number o (Some n) i s =
    rises_if (on.is_reset i) (on.reset_by (checked o s i) n i s) (if nat_lt s.expected n then on.too_high o n i s else (if nat_lt n s.expected then on.too_low n i s else on.in_order_by (checked o s i) n i s)) (λ e. reset_rises (checked o s i) n i s)
    (λ e. rises_if (nat_lt s.expected n) (on.too_high o n i s) (if nat_lt n s.expected then on.too_low n i s else on.in_order_by (checked o s i) n i s) (λ f. same _ (high_passive o n i s).expected)
    (λ f. rises_if (nat_lt n s.expected) (on.too_low n i s) (on.in_order_by (checked o s i) n i s) (λ g. same _ (low_kept n i s).kept)
    (λ g. order_rises (checked o s i) n i s (neither s.expected n f g))))

on_rises : (o : Options) (s : MachineState) (i : Inbound) → Rises s (on.logged_on o s i)
on_rises o s i =
    rises_if (not (is_of_session o.identity i.header)) (refuse_with text.BeginString (number_or_0 i.header.number) refusal.BeginString s) (on.by_number o i.header.number i s) (λ e. same _ refl) (λ e. later_by_number o i.header.number i s)

message_rises : (p : Phase) (o : Options) (s : MachineState) (i : Inbound) → Rises s (message p o s i)
message_rises Down o s i = same _ refl
message_rises AwaitLogon o s i = await_rises o s i
message_rises Up o s i = on_rises o s i
message_rises LogoutSent o s i = on_rises o s i

-- the same state but for the times of a message that was read
unheard : (s : MachineState) (x : Answered) → Rises (heard s) x → Rises s x
unheard s x (rises le) = rises le
unheard s x (resets steps e) = resets steps e
unheard s x (confirms steps e) = confirms steps e

pub never_falls : (o : Options) (s : MachineState) (e : EventSeen) → Rises s (answer_to o s e)
never_falls o s (Begin role now) = same _ refl
never_falls o s First = same _ refl
never_falls o s (Frame i) = unheard s _ (message_rises s.phase o (heard s) i)
never_falls o s (Moved waiting) = same _ (no_message o s (Moved waiting) tt)
never_falls o s (Clock now inside) = same _ (no_message o s (Clock now inside) tt)
never_falls o s (Leave now) = same _ (no_message o s (Leave now) tt)
never_falls o s Ended = same _ refl
never_falls o s (Wrote now) = same _ refl
