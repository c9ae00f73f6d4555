-- A message of the expected number, and one above it.
use Rattle.std.proofs.Common.{◌≡◌, ℕ, ◌<◌, ◌+◌, nat_lt, codes, ◌&&◌, Bool, true, false, if◌then◌else◌, [], ◌∷◌, Option, Some, None, refl, ap, ◌∙◌, sym, subst, inl, inr, arith}
use Rattle.std.specs.Prelude.{not, is_none}
use Rattle.std.proofs.lemmas.Bool.{lt-ltb, cases_lt}
use Rattle.std.proofs.lemmas.Bool.Decides.{nat_tests}
use Rattle.fix_admin.specs.Admin as admin
use Rattle.fix_admin.specs.Admin.{AdminSeen}
use Rattle.fix_machine.specs.declared.state.Phase.{Phase}
use Rattle.fix_machine.specs.declared.state.Phase.TheVariants.{Down, AwaitLogon, Up, LogoutSent}
use Rattle.fix_machine.specs.State.{Options, MachineState, heard, counted, read_clock}
use Rattle.fix_machine.specs.Event.{Inbound, VerdictSeen, App, Admin, Bad, EventSeen, Begin, First, Moved, Clock, Leave, Ended, Wrote, StepSeen, Frame, Hand, Expect, Serve, Stash}
use Rattle.fix_machine.specs.Answer.{Answered, answer, silent, names, refuse_with, is_of_session, ask_step, asked}
use Rattle.fix_machine.specs.declared.event.Refusal.TheVariants as refusal
use Rattle.fix_admin.specs.declared.say.LogoutText.TheVariants as text
use Rattle.fix_machine.specs.Checks as found
use Rattle.fix_machine.specs.Checks.{FindingSeen, Fine, checked}
use Rattle.fix_machine.specs.LoggedOn as on
use Rattle.fix_machine.specs.Clock as clocks
use Rattle.fix_machine.specs.declared.clock.Due.{Due}
use Rattle.fix_machine.specs.declared.clock.Due.TheVariants as due
use Rattle.fix_machine.specs.declared.state.Requested.{Requested}
use Rattle.fix_machine.specs.Decide.{answer_to, message, moved_in, leave}
use Rattle.fix_machine.specs.Numbers.{IsLoggedOn, IsPassive, IsNoReject, IsNoMessage}

-- ---- from the phase to the number

not_first : (b : Bool) (x y : Answered) → b ≡ true → (if not b then x else y) ≡ y
not_first true x y e = refl
not_first false x y e = cc

second : (b : Bool) (x y : Answered) → b ≡ false → (if b then x else y) ≡ y
second true x y e = cc
second false x y e = refl

first : (b : Bool) (x y : Answered) → b ≡ true → (if b then x else y) ≡ x
first true x y e = refl
first false x y e = cc

by_phase : (p : Phase) (o : Options) (t : MachineState) (i : Inbound) → IsLoggedOn p → message p o t i ≡ on.logged_on o t i
by_phase Down o t i h = absurd h
by_phase AwaitLogon o t i h = absurd h
by_phase Up o t i h = refl
by_phase LogoutSent o t i h = refl

numbered : (o : Options) (s : MachineState) (i : Inbound) (n : ℕ) → IsLoggedOn s.phase → is_of_session o.identity i.header ≡ true → i.header.number ≡ Some n → answer_to o s (Frame i) ≡ on.numbered o n i (heard s)
numbered o s i n up own number =
    by_phase s.phase o (heard s) i up ∙ not_first (is_of_session o.identity i.header) _ (on.by_number o i.header.number i (heard s)) own ∙ ap (λ (m : Option ℕ). on.by_number o m i (heard s)) number

not_below : (n : ℕ) → nat_lt n n ≡ false
not_below n = grind (arith, nat_tests)

pub in_order : (o : Options) (s : MachineState) (i : Inbound) → IsLoggedOn s.phase → is_of_session o.identity i.header ≡ true → i.header.number ≡ Some s.expected → on.is_reset i ≡ false → checked o (heard s) i ≡ Fine → i.verdict ≡ App
    → answer_to o s (Frame i) ≡ answer (Hand ∷ Expect (s.expected + 1) ∷ []) (counted s.expected (heard s))
in_order o s i up own number reset fine app =
    let n = s.expected in
    let t = heard s in
    numbered o s i n up own number
    ∙ second (on.is_reset i) (on.reset_by (checked o t i) n i t) (if nat_lt n n then on.too_high o n i t else (if nat_lt n n then on.too_low n i t else on.in_order_by (checked o t i) n i t)) reset
    ∙ second (nat_lt n n) (on.too_high o n i t) (if nat_lt n n then on.too_low n i t else on.in_order_by (checked o t i) n i t) (not_below n)
    ∙ second (nat_lt n n) (on.too_low n i t) (on.in_order_by (checked o t i) n i t) (not_below n)
    ∙ ap (λ (f : FindingSeen). on.in_order_by f n i t) fine
    ∙ ap (λ (v : VerdictSeen). on.by_type v n i t) app

-- ---- above the expected number

either : {s : MachineState} (b : Bool) (x y : Answered) → IsPassive s x → IsPassive s y → IsPassive s (if b then x else y)
either true x y p q = p
either false x y p q = q

ask_passive : (o : Options) (n : ℕ) (s : MachineState) → IsPassive s (on.then_ask o n [] s)
ask_passive o n s = either (is_none s.resend_requested) (answer (ask_step o n s ∷ []) (asked o n s)) (answer [] s) (record { expected = refl; quiet = (tt, (tt, (tt, (tt, tt)))) }) (record { expected = refl; quiet = (tt, (tt, (tt, (tt, tt)))) })

step_passive : (o : Options) (n : ℕ) (s : MachineState) (step : StepSeen) → IsNoReject step → IsPassive s (on.then_ask o n (step ∷ []) s)
step_passive o n s step h = either (is_none s.resend_requested) (answer (step ∷ ask_step o n s ∷ []) (asked o n s)) (answer (step ∷ []) s) (record { expected = refl; quiet = (h, (tt, (tt, (tt, tt)))) }) (record { expected = refl; quiet = (h, (tt, (tt, (tt, tt)))) })

out_passive : (p : Phase) (n : ℕ) (s : MachineState) → IsPassive s (answer (on.logout_steps p n) (on.logged_out p s))
out_passive Down n s = record { expected = refl; quiet = (tt, (tt, (tt, (tt, tt)))) }
out_passive AwaitLogon n s = record { expected = refl; quiet = (tt, (tt, (tt, (tt, tt)))) }
out_passive Up n s = record { expected = refl; quiet = (tt, (tt, (tt, (tt, tt)))) }
out_passive LogoutSent n s = record { expected = refl; quiet = (tt, (tt, (tt, (tt, tt)))) }

served_passive : (a : AdminSeen) (o : Options) (n : ℕ) (s : MachineState) → IsPassive s (on.served_early a o n s)
served_passive (admin.Heartbeat id) o n s = ask_passive o n s
served_passive (admin.TestRequest id) o n s = ask_passive o n s
served_passive (admin.ResendRequest from to) o n s = step_passive o n s (Serve from to) tt
served_passive (admin.Reject about) o n s = ask_passive o n s
served_passive (admin.SequenceReset next gap) o n s = ask_passive o n s
served_passive admin.Logout o n s = out_passive s.phase n s
served_passive (admin.Logon heart reset version) o n s = ask_passive o n s

early_passive : (v : VerdictSeen) (o : Options) (n : ℕ) (s : MachineState) → IsPassive s (on.early_of v o n s)
early_passive App o n s = ask_passive o n s
early_passive (Admin a) o n s = served_passive a o n s
early_passive (Bad fault) o n s = ask_passive o n s

early_by_passive : (f : FindingSeen) (o : Options) (n : ℕ) (i : Inbound) (s : MachineState) → IsPassive s (on.early_by f o n i s)
early_by_passive found.Fine o n i s = early_passive i.verdict o n s
early_by_passive (found.Reject fault) o n i s = ask_passive o n s
early_by_passive (found.RejectAndClose fault text cause) o n i s = ask_passive o n s

pub high_passive : (o : Options) (n : ℕ) (i : Inbound) (s : MachineState) → IsPassive s (on.too_high o n i s)
high_passive o n i s =
    either (on.is_early i) (on.early_by (checked o s i) o n i s) (if i.full then on.then_ask o n [] s else on.then_ask o n (Stash ∷ []) s) (early_by_passive (checked o s i) o n i s)
    (either i.full (on.then_ask o n [] s) (on.then_ask o n (Stash ∷ []) s) (ask_passive o n s) (step_passive o n s Stash tt))

pub too_high : (o : Options) (s : MachineState) (i : Inbound) (n : ℕ) → IsLoggedOn s.phase → is_of_session o.identity i.header ≡ true → i.header.number ≡ Some n → on.is_reset i ≡ false → s.expected < n
    → IsPassive s (answer_to o s (Frame i))
too_high o s i n up own number reset above =
    let t = heard s in
    let e : answer_to o s (Frame i) ≡ on.too_high o n i t =
    numbered o s i n up own number
    ∙ second (on.is_reset i) (on.reset_by (checked o t i) n i t) (if nat_lt s.expected n then on.too_high o n i t else (if nat_lt n s.expected then on.too_low n i t else on.in_order_by (checked o t i) n i t)) reset
    ∙ first (nat_lt s.expected n) (on.too_high o n i t) (if nat_lt n s.expected then on.too_low n i t else on.in_order_by (checked o t i) n i t) (lt-ltb s.expected n above) in
    let h = high_passive o n i t in
    subst (λ (x : Answered). IsPassive s x) (sym e) (record { expected = h.expected; quiet = h.quiet })

-- ---- what doesn't move the expected number

pub record IsKept (s : MachineState) (x : Answered) : Type 0 where
  pub kept : x.next.expected ≡ s.expected

keep : {s : MachineState} (b : Bool) (x y : Answered) → IsKept s x → IsKept s y → IsKept s (if b then x else y)
keep true x y p q = p
keep false x y p q = q

pub low_kept : (n : ℕ) (i : Inbound) (s : MachineState) → IsKept s (on.too_low n i s)
low_kept n i s = keep (names i.header.poss_dup (codes "Y")) (silent s) (refuse_with (text.TooLow s.expected n) n refusal.TooLow s) (record { kept = refl }) (record { kept = refl })

not_above : (a b : ℕ) → b < a → nat_lt a b ≡ false
not_above a b h = grind (arith, nat_tests)

too_low : (o : Options) (s : MachineState) (i : Inbound) (n : ℕ) → IsLoggedOn s.phase → is_of_session o.identity i.header ≡ true → i.header.number ≡ Some n → on.is_reset i ≡ false → n < s.expected
    → (answer_to o s (Frame i)).next.expected ≡ s.expected
too_low o s i n up own number reset below =
    let t = heard s in
    let e : answer_to o s (Frame i) ≡ on.too_low n i t =
    numbered o s i n up own number
    ∙ second (on.is_reset i) (on.reset_by (checked o t i) n i t) (if nat_lt s.expected n then on.too_high o n i t else (if nat_lt n s.expected then on.too_low n i t else on.in_order_by (checked o t i) n i t)) reset
    ∙ second (nat_lt s.expected n) (on.too_high o n i t) (if nat_lt n s.expected then on.too_low n i t else on.in_order_by (checked o t i) n i t) (not_above s.expected n below)
    ∙ first (nat_lt n s.expected) (on.too_low n i t) (on.in_order_by (checked o t i) n i t) (lt-ltb n s.expected below) in
    ap (λ (x : Answered). x.next.expected) e ∙ (low_kept n i t).kept

pub other_number : (o : Options) (s : MachineState) (i : Inbound) (n : ℕ) → IsLoggedOn s.phase → is_of_session o.identity i.header ≡ true → i.header.number ≡ Some n → on.is_reset i ≡ false → (n ≡ s.expected → ⊥)
    → (answer_to o s (Frame i)).next.expected ≡ s.expected
other_number o s i n up own number reset other =
    elim (cases_lt s.expected n) [
      | inl above ↦ (too_high o s i n up own number reset above).expected
      | inr most ↦ too_low o s i n up own number reset (omega (arith, other, most))
    ]

window_kept : (p : Phase) (now : ℕ) (s : MachineState) → IsKept s (clocks.out_of_window p now s)
window_kept Down now s = record { kept = refl }
window_kept AwaitLogon now s = record { kept = refl }
window_kept Up now s = record { kept = refl }
window_kept LogoutSent now s = record { kept = refl }

due_kept : (d : Option Due) (s : MachineState) → IsKept s (clocks.due_answer d s)
due_kept None s = record { kept = refl }
due_kept (Some due.LogonLate) s = record { kept = refl }
due_kept (Some due.LogoutLate) s = record { kept = refl }
due_kept (Some (due.Silent since)) s = record { kept = refl }
due_kept (Some due.TestRequest) s = record { kept = refl }
due_kept (Some due.Heartbeat) s = record { kept = refl }

looked_kept : (o : Options) (s : MachineState) (inside : Bool) → IsKept s (clocks.clock o s inside)
looked_kept o s false = window_kept s.phase s.reading s
looked_kept o s true = due_kept (clocks.due_at o s s.reading) s

moved_kept : (gap : Option Requested) (o : Options) (s : MachineState) → IsKept s (moved_in gap o s)
moved_kept None o s = record { kept = refl }
moved_kept (Some gap) o s =
    keep (nat_lt gap.above s.expected) (silent (record s { resend_requested = None })) (if nat_lt 0 o.chunk && nat_lt gap.end s.expected then answer (ask_step o gap.above s ∷ []) (asked o gap.above s) else silent s) (record { kept = refl })
    (keep (nat_lt 0 o.chunk && nat_lt gap.end s.expected) (answer (ask_step o gap.above s ∷ []) (asked o gap.above s)) (silent s) (record { kept = refl }) (record { kept = refl }))

left_kept : (p : Phase) (s : MachineState) → IsKept s (leave p s)
left_kept Down s = record { kept = refl }
left_kept AwaitLogon s = record { kept = refl }
left_kept Up s = record { kept = refl }
left_kept LogoutSent s = record { kept = refl }

pub no_message : (o : Options) (s : MachineState) (e : EventSeen) → IsNoMessage e → (answer_to o s e).next.expected ≡ s.expected
no_message o s (Begin role now) h = refl
no_message o s First h = refl
no_message o s (Frame i) h = absurd h
no_message o s (Moved waiting) h = (moved_kept s.resend_requested o s).kept
no_message o s (Clock now inside) h = (looked_kept o (read_clock now s) inside).kept
no_message o s (Leave now) h = (left_kept s.phase (read_clock now s)).kept
no_message o s Ended h = refl
no_message o s (Wrote now) h = refl
