-- What moves the expected number.
use Rattle.std.proofs.Common.{◌≡◌, ℕ, ◌+◌, ◌==◌, nat_lt, codes, ◌&&◌, Bool, true, false, if◌then◌else◌, [], ◌∷◌, Option, Some, None, refl, ap, ◌∙◌, arith}
use Rattle.std.specs.Prelude.{not}
use Rattle.std.proofs.lemmas.Bool.Decides.{nat_tests}
use Rattle.fix_admin.specs.declared.say.LogoutText.TheVariants as text
use Rattle.fix_machine.specs.declared.event.Refusal.TheVariants as refusal
use Rattle.fix_machine.specs.declared.state.Phase.{Phase}
use Rattle.fix_machine.specs.declared.state.Phase.TheVariants.{Down, AwaitLogon, Up, LogoutSent}
use Rattle.fix_machine.specs.declared.state.Role.{Role}
use Rattle.fix_machine.specs.declared.state.Role.TheVariants.{Acceptor, Initiator}
use Rattle.fix_machine.specs.State.{Options, MachineState, heard, counted, up}
use Rattle.fix_machine.specs.Event.{Inbound, EventSeen, Begin, First, Frame, Moved, Clock, Leave, Ended, Wrote, Expect, Confirm}
use Rattle.fix_machine.specs.Answer.{Answered, answer, names, refuse, refuse_with, number_or_0, is_of_session, asked}
use Rattle.fix_machine.specs.Checks.{checked}
use Rattle.fix_machine.specs.AwaitLogon as await
use Rattle.fix_machine.specs.LoggedOn as on
use Rattle.fix_machine.specs.Decide.{answer_to, message}
use Rattle.fix_machine.specs.Causes.{MayMove, stays, in_order, resets, begins_anew, is_confirmed}
use Rattle.fix_machine.proofs.OrderLemmas.{no_message, high_passive, low_kept}

move_if : {s : MachineState} {i : Inbound} (b : Bool) (x y : Answered) → (b ≡ true → MayMove s x (Frame i)) → (b ≡ false → MayMove s y (Frame i)) → MayMove s (if b then x else y) (Frame i)
move_if true x y p q = p refl
move_if false x y p q = q refl

-- ---- the first message

-- a Logon that isn't too low is counted where it is of the expected number, and asked for where it is above
not_low : (b r : Bool) → (b && (not r && not (false && true))) ≡ false → r ≡ false → b ≡ false
not_low true true e f = cc
not_low true false e f = cc
not_low false r e f = refl

role_low : (b r c : Bool) → (b && (not r && not (c && false))) ≡ false → r ≡ false → b ≡ false
role_low true true c e f = cc
role_low true false true e f = cc
role_low true false false e f = cc
role_low false r c e f = refl

neither : (a b : ℕ) → nat_lt a b ≡ false → nat_lt b a ≡ false → b ≡ a
neither a b p q = grind (arith, nat_tests)

counts_or_asks : {i : Inbound} (b : Bool) (o : Options) (n : ℕ) (s t : MachineState) (x : Answered) → i.header.number ≡ Some n → t.expected ≡ s.expected → nat_lt s.expected n ≡ b → nat_lt n s.expected ≡ false
    → x.next ≡ (if b then asked o n t else counted n t) → MayMove s x (Frame i)
counts_or_asks true o n s t x k same e low is = stays (ap (λ (u : MachineState). u.expected) is ∙ same)
counts_or_asks false o n s t x k same e low is = in_order (k ∙ ap Some (neither s.expected n e low))

acceptor_moves : {i : Inbound} (o : Options) (reset each : Bool) (n heart : ℕ) (s : MachineState) → i.header.number ≡ Some n → (nat_lt n s.expected && (not reset && not (each && true))) ≡ false
    → MayMove s (if reset then await.reset_answer o n heart s else (if each then await.own_reset_answer o n heart s else await.plain_answer o n heart s)) (Frame i)
acceptor_moves o true each n heart s k low = begins_anew _ refl
acceptor_moves o false true n heart s k low = begins_anew _ refl
acceptor_moves o false false n heart s k low = counts_or_asks (nat_lt s.expected n) o n s (await.answered heart s) (await.plain_answer o n heart s) k refl refl (not_low (nat_lt n s.expected) false low refl) refl

initiator_moves : {i : Inbound} (asks : Bool) (o : Options) (reset : Bool) (n : ℕ) (s : MachineState) → i.header.number ≡ Some n → (nat_lt n s.expected && (not reset && not (o.reset_on_logon && false))) ≡ false
    → MayMove s (if asks then (if reset then answer (Confirm ∷ Expect (n + 1) ∷ []) (counted n (await.confirmed s)) else refuse n refusal.ResetUnanswered s) else (if reset then refuse n refusal.ResetAsked s else answer (await.count_or_ask o n (up s) ∷ []) (await.counted_or_asked o n (up s)))) (Frame i)
initiator_moves true o true n s k low = is_confirmed _ refl
initiator_moves true o false n s k low = stays refl
initiator_moves false o true n s k low = stays refl
initiator_moves false o false n s k low = counts_or_asks (nat_lt s.expected n) o n s (up s) (answer (await.count_or_ask o n (up s) ∷ []) (await.counted_or_asked o n (up s))) k refl refl (role_low (nat_lt n s.expected) false o.reset_on_logon low refl) refl

taken_moves : {i : Inbound} (side : Role) (o : Options) (reset : Bool) (n heart : ℕ) (s : MachineState) → i.header.number ≡ Some n → (nat_lt n s.expected && (not reset && not (o.reset_on_logon && await.is_acceptor side))) ≡ false
    → MayMove s (await.taken side o reset n heart s) (Frame i)
taken_moves Acceptor o reset n heart s k low = acceptor_moves o reset o.reset_on_logon n heart s k low
taken_moves Initiator o reset n heart s k low = initiator_moves s.reset_asked o reset n s k low

logon_moves : {i : Inbound} (heart : Option ℕ) (o : Options) (reset : Bool) (n : ℕ) (s : MachineState) → i.header.number ≡ Some n → await.is_too_low o n s reset ≡ false → MayMove s (await.logon_answer heart o reset n s) (Frame i)
logon_moves None o reset n s k low = stays refl
logon_moves (Some heart) o reset n s k low = move_if (reset && not (n == 1)) (refuse n refusal.BadLogon s) (await.taken s.role o reset n heart s) (λ e. stays refl) (λ e. taken_moves s.role o reset n heart s k low)

first_by_number : (o : Options) (number : Option ℕ) (s : MachineState) (i : Inbound) → i.header.number ≡ number → MayMove s (await.by_number o number s i) (Frame i)
first_by_number o None s i k = stays refl
first_by_number o (Some n) s i k =
    move_if (await.is_too_low o n s i.reset) (refuse_with (text.TooLow s.expected n) n refusal.TooLow s) (if not (await.is_addressed o.identity i.header) then refuse n refusal.CompId s else (if not (await.is_near o.latency s.reading i.sent) then refuse n refusal.SendingTime s else await.logon_answer (await.heart_in o i.verdict) o i.reset n s)) (λ e. stays refl)
    (λ low. move_if (not (await.is_addressed o.identity i.header)) (refuse n refusal.CompId s) (if not (await.is_near o.latency s.reading i.sent) then refuse n refusal.SendingTime s else await.logon_answer (await.heart_in o i.verdict) o i.reset n s) (λ e. stays refl)
    (λ e. move_if (not (await.is_near o.latency s.reading i.sent)) (refuse n refusal.SendingTime s) (await.logon_answer (await.heart_in o i.verdict) o i.reset n s) (λ f. stays refl)
    (λ f. logon_moves (await.heart_in o i.verdict) o i.reset n s k low)))

await_moves : (o : Options) (s : MachineState) (i : Inbound) → MayMove s (await.await_logon o s i) (Frame i)
await_moves o s i =
    move_if (not (names i.header.type (codes "A"))) (refuse (number_or_0 i.header.number) refusal.NotLogon s) (if not (is_of_session o.identity i.header) then refuse (number_or_0 i.header.number) refusal.BeginString s else await.by_number o i.header.number s i) (λ e. stays refl)
    (λ e. move_if (not (is_of_session o.identity i.header)) (refuse (number_or_0 i.header.number) refusal.BeginString s) (await.by_number o i.header.number s i) (λ f. stays refl) (λ f. first_by_number o i.header.number s i refl))

-- ---- later messages

later_by_number : (o : Options) (number : Option ℕ) (i : Inbound) (s : MachineState) → i.header.number ≡ number → MayMove s (on.by_number o number i s) (Frame i)
later_by_number o None i s k = stays refl
later_by_number o (Some n) i s k =
    move_if (on.is_reset i) (on.reset_by (checked o s i) n i s) (if nat_lt s.expected n then on.too_high o n i s else (if nat_lt n s.expected then on.too_low n i s else on.in_order_by (checked o s i) n i s)) (λ e. resets e)
    (λ e. move_if (nat_lt s.expected n) (on.too_high o n i s) (if nat_lt n s.expected then on.too_low n i s else on.in_order_by (checked o s i) n i s) (λ f. stays (high_passive o n i s).expected)
    (λ f. move_if (nat_lt n s.expected) (on.too_low n i s) (on.in_order_by (checked o s i) n i s) (λ g. stays (low_kept n i s).kept)
    (λ g. in_order (k ∙ ap Some (neither s.expected n f g)))))

later_moves : (o : Options) (s : MachineState) (i : Inbound) → MayMove s (on.logged_on o s i) (Frame i)
later_moves o s i =
    move_if (not (is_of_session o.identity i.header)) (refuse_with text.BeginString (number_or_0 i.header.number) refusal.BeginString s) (on.by_number o i.header.number i s) (λ e. stays refl) (λ e. later_by_number o i.header.number i s refl)

message_moves : (p : Phase) (o : Options) (s : MachineState) (i : Inbound) → MayMove s (message p o s i) (Frame i)
message_moves Down o s i = stays refl
message_moves AwaitLogon o s i = await_moves o s i
message_moves Up o s i = later_moves o s i
message_moves LogoutSent o s i = later_moves o s i

-- the same state but for the times of a message that was read
unheard : (s : MachineState) (x : Answered) (e : EventSeen) → MayMove (heard s) x e → MayMove s x e
unheard s x e (stays is) = stays is
unheard s x (Frame i) (in_order k) = in_order k
unheard s x (Frame i) (resets is) = resets is
unheard s x (Frame i) (begins_anew steps is) = begins_anew steps is
unheard s x (Frame i) (is_confirmed steps is) = is_confirmed steps is

pub may_move : (o : Options) (s : MachineState) (e : EventSeen) → MayMove s (answer_to o s e) e
may_move o s (Begin role now) = stays refl
may_move o s First = stays refl
may_move o s (Frame i) = unheard s _ (Frame i) (message_moves s.phase o (heard s) i)
may_move o s (Moved waiting) = stays (no_message o s (Moved waiting) tt)
may_move o s (Clock now inside) = stays (no_message o s (Clock now inside) tt)
may_move o s (Leave now) = stays (no_message o s (Leave now) tt)
may_move o s Ended = stays refl
may_move o s (Wrote now) = stays refl
