-- Every close has one of the stated causes.
use Rattle.std.proofs.Common.{◌≡◌, ◌⊎◌, ℕ, ◌<◌, ◌≤◌, ◌+◌, ◌==◌, nat_lt, nat_le, codes, ◌&&◌, Bool, true, false, if◌then◌else◌, List, [], ◌∷◌, Option, Some, None, refl, sym, ap, ◌∙◌, subst, inl, inr, arith}
use Rattle.std.specs.Prelude.{not, is_none, ℤ, bytes_eq}
use Rattle.std.proofs.lemmas.Bool.{ltb-true, eqb-false}
use Rattle.std.proofs.lemmas.Bool.Decides.{nat_tests}
use Rattle.fix_base.specs.declared.fault.Fault.{Fault}
use Rattle.fix_admin.specs.Admin as admin
use Rattle.fix_admin.specs.Admin.{AdminSeen}
use Rattle.fix_admin.specs.Values.{fault_of}
use Rattle.fix_admin.specs.declared.say.LogoutText.{LogoutText}
use Rattle.fix_admin.specs.declared.say.LogoutText.TheVariants as text
use Rattle.fix_machine.specs.declared.event.Refusal.{Refusal}
use Rattle.fix_machine.specs.declared.event.Refusal.TheVariants as refusal
use Rattle.fix_machine.specs.declared.event.Why.{Why}
use Rattle.fix_machine.specs.declared.event.Why.TheVariants.{Refused, LoggedOut, OutOfWindow}
use Rattle.fix_machine.specs.declared.state.Phase.{Phase}
use Rattle.fix_machine.specs.declared.state.Phase.TheVariants.{Down, AwaitLogon, Up, LogoutSent}
use Rattle.fix_machine.specs.declared.state.Role.{Role}
use Rattle.fix_machine.specs.declared.state.Role.TheVariants.{Acceptor, Initiator}
use Rattle.fix_machine.specs.declared.state.Requested.{Requested}
use Rattle.fix_machine.specs.declared.clock.Due.{Due}
use Rattle.fix_machine.specs.declared.clock.Due.TheVariants as due
use Rattle.fix_machine.specs.State.{Options, MachineState, heard, counted, emptied, up, expecting, sent, read_clock}
use Rattle.fix_machine.specs.Event.{Inbound, VerdictSeen, App, Admin, Bad, EventSeen, Begin, First, Frame, Moved, Clock, Leave, Ended, Wrote, StepSeen, Serve, Stash, Expect, Confirm}
use Rattle.fix_machine.specs.Answer.{Answered, answer, silent, names, refuse, refuse_with, reject, type_in, number_or_0, is_of_session, ask_step, asked}
use Rattle.fix_machine.specs.Checks as found
use Rattle.fix_machine.specs.Checks.{FindingSeen, checked, comp_ids, sending_time, is_timely, is_later, poss_dup, orig_sending_time, content, marks, times, else_look, wrong_comp_id, wrong_time}
use Rattle.fix_machine.specs.AwaitLogon as await
use Rattle.fix_machine.specs.LoggedOn as on
use Rattle.fix_machine.specs.Clock as clocks
use Rattle.fix_machine.specs.Decide.{answer_to, message, moved_in, leave}
use Rattle.fix_machine.specs.Causes as cause
use Rattle.fix_machine.specs.Causes.{ClosesAtLogon, ClosesLater, ClosesInTime, MessageCloses, IsCause, HasCause, HaveCauses, is_other}

closes_if : {P : Why → Type 0} (b : Bool) (x y : Answered) → (b ≡ true → HaveCauses P x) → (b ≡ false → HaveCauses P y) → HaveCauses P (if b then x else y)
closes_if true x y p q = p refl
closes_if false x y p q = q refl

not_true : (b : Bool) → not b ≡ true → b ≡ false
not_true true e = cc
not_true false e = refl

not_false : (b : Bool) → not b ≡ false → b ≡ true
not_false true e = refl
not_false false e = cc

both : (a b : Bool) → (a && b) ≡ true → (a ≡ true) × (b ≡ true)
both true b e = (refl, e)
both false b e = cc

not_less : (a b : ℕ) → nat_lt a b ≡ false → b ≤ a
not_less a b e = grind (arith, nat_tests)

-- ---- the first message

-- one step that asks or counts
ask_or_count : (P : Why → Type 0) (b : Bool) (o : Options) (n : ℕ) (s : MachineState) → HasCause P (if b then ask_step o n s else Expect (n + 1))
ask_or_count P true o n s = tt
ask_or_count P false o n s = tt

acceptor_closes : {P : Why → Type 0} (o : Options) (reset each : Bool) (n heart : ℕ) (s : MachineState) → HaveCauses P (if reset then await.reset_answer o n heart s else (if each then await.own_reset_answer o n heart s else await.plain_answer o n heart s))
acceptor_closes o true each n heart s = record { each = (tt, (tt, (tt, (tt, tt)))) }
acceptor_closes o false true n heart s = record { each = (tt, (tt, (ask_or_count _ (nat_lt 1 n) o n (await.answered heart (emptied s)), (tt, tt)))) }
acceptor_closes o false false n heart s = record { each = (tt, (ask_or_count _ (nat_lt s.expected n) o n (await.answered heart s), (tt, (tt, tt)))) }

initiator_closes : (asks reset : Bool) (o : Options) (n : ℕ) (s : MachineState) (i : Inbound) → i.header.number ≡ Some n → s.role ≡ Initiator → s.reset_asked ≡ asks → i.reset ≡ reset
    → HaveCauses (ClosesAtLogon o s i) (if asks then (if reset then answer (Confirm ∷ Expect (n + 1) ∷ []) (counted n (await.confirmed s)) else refuse n refusal.ResetUnanswered s) else (if reset then refuse n refusal.ResetAsked s else answer (await.count_or_ask o n (up s) ∷ []) (await.counted_or_asked o n (up s))))
initiator_closes true true o n s i e r a f = record { each = (tt, (tt, (tt, (tt, tt)))) }
initiator_closes true false o n s i e r a f = record { each = (cause.reset_unanswered n e r a f, (tt, (tt, (tt, tt)))) }
initiator_closes false true o n s i e r a f = record { each = (cause.reset_asked n e r a f, (tt, (tt, (tt, tt)))) }
initiator_closes false false o n s i e r a f = record { each = (ask_or_count _ (nat_lt s.expected n) o n (up s), (tt, (tt, (tt, tt)))) }

taken_closes : (side : Role) (o : Options) (n heart : ℕ) (s : MachineState) (i : Inbound) → i.header.number ≡ Some n → s.role ≡ side → HaveCauses (ClosesAtLogon o s i) (await.taken side o i.reset n heart s)
taken_closes Acceptor o n heart s i e r = acceptor_closes o i.reset o.reset_on_logon n heart s
taken_closes Initiator o n heart s i e r = initiator_closes s.reset_asked i.reset o n s i e r refl refl

logon_closes : (heart : Option ℕ) (o : Options) (n : ℕ) (s : MachineState) (i : Inbound) → i.header.number ≡ Some n → await.heart_in o i.verdict ≡ heart → HaveCauses (ClosesAtLogon o s i) (await.logon_answer heart o i.reset n s)
logon_closes None o n s i e h = record { each = (cause.bad_logon n e h, (tt, (tt, (tt, tt)))) }
logon_closes (Some heart) o n s i e h =
    closes_if (i.reset && not (n == 1)) (refuse n refusal.BadLogon s) (await.taken s.role o i.reset n heart s)
    (λ t. let b = both i.reset (not (n == 1)) t in record { each = (cause.late_reset n e b.0 (eqb-false n 1 (not_true (n == 1) b.1)), (tt, (tt, (tt, tt)))) })
    (λ t. taken_closes s.role o n heart s i e refl)

low_parts : (b r c : Bool) → (b && (not r && not c)) ≡ true → (b ≡ true) × (r ≡ false) × (c ≡ false)
low_parts b r c e =
    let p = both b (not r && not c) e in
    let q = both (not r) (not c) p.1 in
    (p.0, not_true r q.0, not_true c q.1)

first_by_number : (o : Options) (number : Option ℕ) (s : MachineState) (i : Inbound) → i.header.number ≡ number → HaveCauses (ClosesAtLogon o s i) (await.by_number o number s i)
first_by_number o None s i e = record { each = (cause.ClosesAtLogon.no_number e, (tt, (tt, (tt, tt)))) }
first_by_number o (Some n) s i e =
    closes_if (await.is_too_low o n s i.reset) (refuse_with (text.TooLow s.expected n) n refusal.TooLow s) (if not (await.is_addressed o.identity i.header) then refuse n refusal.CompId s else (if not (await.is_near o.latency s.reading i.sent) then refuse n refusal.SendingTime s else await.logon_answer (await.heart_in o i.verdict) o i.reset n s))
    (λ t. let p = low_parts (nat_lt n s.expected) i.reset (await.resets_each o s) t in record { each = (tt, (cause.ClosesAtLogon.too_low n e (ltb-true n s.expected p.0) p.1 p.2, (tt, (tt, tt)))) })
    (λ t. closes_if (not (await.is_addressed o.identity i.header)) (refuse n refusal.CompId s) (if not (await.is_near o.latency s.reading i.sent) then refuse n refusal.SendingTime s else await.logon_answer (await.heart_in o i.verdict) o i.reset n s)
    (λ t. record { each = (cause.comp_id n e (not_true (await.is_addressed o.identity i.header) t), (tt, (tt, (tt, tt)))) })
    (λ t. closes_if (not (await.is_near o.latency s.reading i.sent)) (refuse n refusal.SendingTime s) (await.logon_answer (await.heart_in o i.verdict) o i.reset n s)
    (λ t. record { each = (cause.ClosesAtLogon.sending_time n e (not_true (await.is_near o.latency s.reading i.sent) t), (tt, (tt, (tt, tt)))) })
    (λ t. logon_closes (await.heart_in o i.verdict) o n s i e refl)))

await_closes : (o : Options) (s : MachineState) (i : Inbound) → HaveCauses (ClosesAtLogon o s i) (await.await_logon o s i)
await_closes o s i =
    closes_if (not (names i.header.type (codes "A"))) (refuse (number_or_0 i.header.number) refusal.NotLogon s) (if not (is_of_session o.identity i.header) then refuse (number_or_0 i.header.number) refusal.BeginString s else await.by_number o i.header.number s i)
    (λ t. record { each = (cause.not_logon (not_true (names i.header.type (codes "A")) t), (tt, (tt, (tt, tt)))) })
    (λ t. closes_if (not (is_of_session o.identity i.header)) (refuse (number_or_0 i.header.number) refusal.BeginString s) (await.by_number o i.header.number s i)
    (λ t. record { each = (cause.ClosesAtLogon.begin_string (not_true (is_of_session o.identity i.header) t), (tt, (tt, (tt, tt)))) })
    (λ t. first_by_number o i.header.number s i refl))

-- ---- what a check closes for

-- the check ends in a close
abbrev Ends : FindingSeen → Fault → LogoutText → Refusal → Type 0
Ends f fault words why = f ≡ found.RejectAndClose fault words why

ended : (o : Options) (s : MachineState) (i : Inbound) (n : ℕ) (f g : Fault) (t u : LogoutText) (c d : Refusal) → Ends (found.RejectAndClose f t c) g u d → ClosesLater o s i (Refused n c) → ClosesLater o s i (Refused n d)
ended o s i n f g t u c d e h = subst (λ (x : Refusal). ClosesLater o s i (Refused n x)) (same e) h
  where
    same : Ends (found.RejectAndClose f t c) g u d → c ≡ d
    same e = cc

looked : (a b : FindingSeen) (g : Fault) (u : LogoutText) (d : Refusal) → Ends (else_look a b) g u d → Ends a g u d ⊎ Ends b g u d
looked found.Fine b g u d e = inr e
looked (found.Reject f) b g u d e = inl e
looked (found.RejectAndClose f t c) b g u d e = inl e

comp_ends : (a b : Option (List ℕ)) (v w : List ℕ) (g : Fault) (u : LogoutText) (d : Refusal)
    → Ends (if is_none a then found.Reject (fault_of 1 49) else (if is_none b then found.Reject (fault_of 1 56) else (if not (names a v) then wrong_comp_id 49 else (if not (names b w) then wrong_comp_id 56 else found.Fine)))) g u d
    → (is_other a v ≡ true) × Ends (wrong_comp_id 49) g u d ⊎ (is_other b w ≡ true) × Ends (wrong_comp_id 56) g u d
comp_ends None b v w g u d e = cc
comp_ends (Some x) None v w g u d e = cc
comp_ends (Some x) (Some y) v w g u d e = by (bytes_eq x v) (bytes_eq y w) e
  where
    by : (p q : Bool) → Ends (if not p then wrong_comp_id 49 else (if not q then wrong_comp_id 56 else found.Fine)) g u d → (not p ≡ true) × Ends (wrong_comp_id 49) g u d ⊎ (not q ≡ true) × Ends (wrong_comp_id 56) g u d
    by false q e = inl (refl, e)
    by true false e = inr (refl, e)
    by true true e = cc

comp_closes : (o : Options) (s : MachineState) (i : Inbound) (n : ℕ) (g : Fault) (u : LogoutText) (d : Refusal) → i.header.number ≡ Some n → Ends (comp_ids o.identity i.header) g u d → ClosesLater o s i (Refused n d)
comp_closes o s i n g u d k e = elim (comp_ends i.header.sender i.header.target o.identity.target o.identity.sender g u d e) [
  | inl h ↦ ended o s i n _ g _ u _ d h.1 (cause.sender n k h.0)
  | inr h ↦ ended o s i n _ g _ u _ d h.1 (cause.target n k h.0)
]

time_closes : (o : Options) (s : MachineState) (i : Inbound) (n : ℕ) (value : Option (List ℕ)) (time : Option ℤ) (g : Fault) (u : LogoutText) (d : Refusal) → i.header.number ≡ Some n → i.sent ≡ time
    → Ends (sending_time o.latency s.reading value time) g u d → ClosesLater o s i (Refused n d)
time_closes o s i n None time g u d k is e = cc
time_closes o s i n (Some v) None g u d k is e = cc
time_closes o s i n (Some v) (Some t) g u d k is e = by (is_timely o.latency s.reading t) refl e
  where
    by : (b : Bool) → is_timely o.latency s.reading t ≡ b → Ends (if b then found.Fine else wrong_time 52) g u d → ClosesLater o s i (Refused n d)
    by true f e = cc
    by false f e = ended o s i n _ g _ u _ d e (cause.sending_time n t k is f)

orig_closes : (o : Options) (s : MachineState) (i : Inbound) (n : ℕ) (value : Option (List ℕ)) (time : Option ℤ) (g : Fault) (u : LogoutText) (d : Refusal) → i.header.number ≡ Some n → names i.header.poss_dup (codes "Y") ≡ true → i.first_sent ≡ time
    → Ends (orig_sending_time value time i.sent) g u d → ClosesLater o s i (Refused n d)
orig_closes o s i n None time g u d k y is e = cc
orig_closes o s i n (Some v) None g u d k y is e = cc
orig_closes o s i n (Some v) (Some t) g u d k y is e = by (is_later t i.sent) refl e
  where
    by : (b : Bool) → is_later t i.sent ≡ b → Ends (if b then wrong_time 122 else found.Fine) g u d → ClosesLater o s i (Refused n d)
    by true f e = ended o s i n _ g _ u _ d e (cause.orig_sending_time n t k y is f)
    by false f e = cc

dup_closes : (o : Options) (s : MachineState) (i : Inbound) (n : ℕ) (flag : Option (List ℕ)) (g : Fault) (u : LogoutText) (d : Refusal) → i.header.number ≡ Some n → i.header.poss_dup ≡ flag
    → Ends (poss_dup i flag) g u d → ClosesLater o s i (Refused n d)
dup_closes o s i n None g u d k is e = cc
dup_closes o s i n (Some v) g u d k is e = by (bytes_eq v (codes "N")) (bytes_eq v (codes "Y")) refl e
  where
    by : (p q : Bool) → bytes_eq v (codes "Y") ≡ q → Ends (if p then found.Fine else (if q then orig_sending_time i.header.orig_sending_time i.first_sent i.sent else found.Reject (fault_of 6 43))) g u d → ClosesLater o s i (Refused n d)
    by true q f e = cc
    by false true f e = orig_closes o s i n i.header.orig_sending_time i.first_sent g u d k (ap (λ (x : Option (List ℕ)). names x (codes "Y")) is ∙ f) refl e
    by false false f e = cc

content_never : (v : VerdictSeen) (g : Fault) (u : LogoutText) (d : Refusal) → Ends (content v) g u d → ⊥
content_never App g u d e = cc
content_never (Admin a) g u d e = cc
content_never (Bad f) g u d e = cc

marks_close : (o : Options) (s : MachineState) (i : Inbound) (n : ℕ) (g : Fault) (u : LogoutText) (d : Refusal) → i.header.number ≡ Some n → Ends (marks i) g u d → ClosesLater o s i (Refused n d)
marks_close o s i n g u d k e = elim (looked (poss_dup i i.header.poss_dup) (content i.verdict) g u d e) [
  | inl h ↦ dup_closes o s i n i.header.poss_dup g u d k refl h
  | inr h ↦ absurd (content_never i.verdict g u d h)
]

times_close : (o : Options) (s : MachineState) (i : Inbound) (n : ℕ) (g : Fault) (u : LogoutText) (d : Refusal) → i.header.number ≡ Some n → Ends (times o s i) g u d → ClosesLater o s i (Refused n d)
times_close o s i n g u d k e = elim (looked (sending_time o.latency s.reading i.header.sending_time i.sent) (marks i) g u d e) [
  | inl h ↦ time_closes o s i n i.header.sending_time i.sent g u d k refl h
  | inr h ↦ marks_close o s i n g u d k h
]

checked_closes : (o : Options) (s : MachineState) (i : Inbound) (n : ℕ) (g : Fault) (u : LogoutText) (d : Refusal) → i.header.number ≡ Some n → Ends (checked o s i) g u d → ClosesLater o s i (Refused n d)
checked_closes o s i n g u d k e = elim (looked (comp_ids o.identity i.header) (times o s i) g u d e) [
  | inl h ↦ comp_closes o s i n g u d k h
  | inr h ↦ times_close o s i n g u d k h
]

-- ---- later messages

reset_closes : (f : FindingSeen) (o : Options) (n : ℕ) (i : Inbound) (s : MachineState) → i.header.number ≡ Some n → checked o s i ≡ f → HaveCauses (ClosesLater o s i) (on.reset_by f n i s)
reset_closes found.Fine o n i s k e =
    let m = on.new_seq_no_in i.verdict in
    closes_if (nat_le s.expected m) (answer (Expect m ∷ []) (expecting m s)) (answer (reject n (type_in i.header) (fault_of 5 36) ∷ []) (sent s)) (λ t. record { each = (tt, (tt, (tt, (tt, tt)))) }) (λ t. record { each = (tt, (tt, (tt, (tt, tt)))) })
reset_closes (found.Reject fault) o n i s k e = record { each = (tt, (tt, (tt, (tt, tt)))) }
reset_closes (found.RejectAndClose fault words why) o n i s k e = record { each = (tt, (tt, (checked_closes o s i n fault words why k e, (tt, tt)))) }

ask_closes : {P : Why → Type 0} (o : Options) (n : ℕ) (s : MachineState) → HaveCauses P (on.then_ask o n [] s)
ask_closes o n s = closes_if (is_none s.resend_requested) (answer (ask_step o n s ∷ []) (asked o n s)) (answer [] s) (λ t. record { each = (tt, (tt, (tt, (tt, tt)))) }) (λ t. record { each = (tt, (tt, (tt, (tt, tt)))) })

step_closes : {P : Why → Type 0} (o : Options) (n : ℕ) (s : MachineState) (step : StepSeen) → HasCause P step → HaveCauses P (on.then_ask o n (step ∷ []) s)
step_closes o n s step h = closes_if (is_none s.resend_requested) (answer (step ∷ ask_step o n s ∷ []) (asked o n s)) (answer (step ∷ []) s) (λ t. record { each = (h, (tt, (tt, (tt, tt)))) }) (λ t. record { each = (h, (tt, (tt, (tt, tt)))) })

out_closes : {P : Why → Type 0} (p : Phase) (n : ℕ) (s : MachineState) → P (LoggedOut n) → HaveCauses P (answer (on.logout_steps p n) (on.logged_out p s))
out_closes Down n s h = record { each = (h, (tt, (tt, (tt, tt)))) }
out_closes AwaitLogon n s h = record { each = (h, (tt, (tt, (tt, tt)))) }
out_closes Up n s h = record { each = (tt, (h, (tt, (tt, tt)))) }
out_closes LogoutSent n s h = record { each = (h, (tt, (tt, (tt, tt)))) }

early_closes : (v : VerdictSeen) (o : Options) (n : ℕ) (i : Inbound) (s : MachineState) → (i.verdict ≡ Admin admin.Logout → ClosesLater o s i (LoggedOut n)) → i.verdict ≡ v → HaveCauses (ClosesLater o s i) (on.early_of v o n s)
early_closes App o n i s out e = ask_closes o n s
early_closes (Admin (admin.Heartbeat id)) o n i s out e = ask_closes o n s
early_closes (Admin (admin.TestRequest id)) o n i s out e = ask_closes o n s
early_closes (Admin (admin.ResendRequest from to)) o n i s out e = step_closes o n s (Serve from to) tt
early_closes (Admin (admin.Reject about)) o n i s out e = ask_closes o n s
early_closes (Admin (admin.SequenceReset next gap)) o n i s out e = ask_closes o n s
early_closes (Admin admin.Logout) o n i s out e = out_closes s.phase n s (out e)
early_closes (Admin (admin.Logon heart reset version)) o n i s out e = ask_closes o n s
early_closes (Bad fault) o n i s out e = ask_closes o n s

early_by_closes : (f : FindingSeen) (o : Options) (n : ℕ) (i : Inbound) (s : MachineState) → i.header.number ≡ Some n → s.expected ≤ n → checked o s i ≡ f → HaveCauses (ClosesLater o s i) (on.early_by f o n i s)
early_by_closes found.Fine o n i s k le e = early_closes i.verdict o n i s (λ v. cause.logged_out n k le v e) refl
early_by_closes (found.Reject fault) o n i s k le e = ask_closes o n s
early_by_closes (found.RejectAndClose fault words why) o n i s k le e = ask_closes o n s

high_closes : (o : Options) (n : ℕ) (i : Inbound) (s : MachineState) → i.header.number ≡ Some n → s.expected < n → HaveCauses (ClosesLater o s i) (on.too_high o n i s)
high_closes o n i s k above =
    closes_if (on.is_early i) (on.early_by (checked o s i) o n i s) (if i.full then on.then_ask o n [] s else on.then_ask o n (Stash ∷ []) s) (λ t. early_by_closes (checked o s i) o n i s k (omega (arith, above)) refl)
    (λ t. closes_if i.full (on.then_ask o n [] s) (on.then_ask o n (Stash ∷ []) s) (λ t. ask_closes o n s) (λ t. step_closes o n s Stash tt))

low_closes : (o : Options) (n : ℕ) (i : Inbound) (s : MachineState) → i.header.number ≡ Some n → n < s.expected → HaveCauses (ClosesLater o s i) (on.too_low n i s)
low_closes o n i s k below =
    closes_if (names i.header.poss_dup (codes "Y")) (silent s) (refuse_with (text.TooLow s.expected n) n refusal.TooLow s) (λ t. record { each = (tt, (tt, (tt, (tt, tt)))) }) (λ t. record { each = (tt, (cause.ClosesLater.too_low n k below t, (tt, (tt, tt)))) })

again_closes : (again : Bool) (o : Options) (n heart : ℕ) (reset : Bool) (version : Option ℕ) (i : Inbound) (s : MachineState) → i.header.number ≡ Some n → n ≡ s.expected → i.verdict ≡ Admin (admin.Logon heart reset version) → i.reset ≡ again
    → HaveCauses (ClosesLater o s i) (on.logged_on_again again n s)
again_closes true o n heart reset version i s k same e f =
    record { each = (tt, (subst (λ (m : ℕ). ClosesLater o s i (Refused m refusal.ResetAsked)) (sym same) (cause.ClosesLater.reset_asked heart reset version (k ∙ ap Some same) e f), (tt, (tt, tt)))) }
again_closes false o n heart reset version i s k same e f = record { each = (tt, (tt, (tt, (tt, tt)))) }

logout_closes : {P : Why → Type 0} (p : Phase) (n : ℕ) (s : MachineState) → P (LoggedOut n) → HaveCauses P (answer (Expect (n + 1) ∷ on.logout_steps p n) s)
logout_closes Down n s h = record { each = (tt, (h, (tt, (tt, tt)))) }
logout_closes AwaitLogon n s h = record { each = (tt, (h, (tt, (tt, tt)))) }
logout_closes Up n s h = record { each = (tt, (tt, (h, (tt, tt)))) }
logout_closes LogoutSent n s h = record { each = (tt, (h, (tt, (tt, tt)))) }

type_closes : (v : VerdictSeen) (o : Options) (n : ℕ) (i : Inbound) (s : MachineState) → i.header.number ≡ Some n → n ≡ s.expected → checked o s i ≡ found.Fine → i.verdict ≡ v → HaveCauses (ClosesLater o s i) (on.by_type v n i s)
type_closes App o n i s k same fine e = record { each = (tt, (tt, (tt, (tt, tt)))) }
type_closes (Admin (admin.Heartbeat id)) o n i s k same fine e = record { each = (tt, (tt, (tt, (tt, tt)))) }
type_closes (Admin (admin.TestRequest id)) o n i s k same fine e = record { each = (tt, (tt, (tt, (tt, tt)))) }
type_closes (Admin (admin.ResendRequest from to)) o n i s k same fine e = record { each = (tt, (tt, (tt, (tt, tt)))) }
type_closes (Admin (admin.Reject about)) o n i s k same fine e = record { each = (tt, (tt, (tt, (tt, tt)))) }
type_closes (Admin (admin.SequenceReset next gap)) o n i s k same fine e =
    closes_if (nat_lt n next) (answer (Expect next ∷ []) (expecting next s)) (on.rejected (fault_of 5 36) n i s) (λ t. record { each = (tt, (tt, (tt, (tt, tt)))) }) (λ t. record { each = (tt, (tt, (tt, (tt, tt)))) })
type_closes (Admin admin.Logout) o n i s k same fine e = logout_closes s.phase n (on.logged_out s.phase (counted n s)) (cause.logged_out n k (omega (arith, same)) e fine)
type_closes (Admin (admin.Logon heart reset version)) o n i s k same fine e = again_closes i.reset o n heart reset version i s k same e refl
type_closes (Bad fault) o n i s k same fine e = record { each = (tt, (tt, (tt, (tt, tt)))) }

order_closes : (f : FindingSeen) (o : Options) (n : ℕ) (i : Inbound) (s : MachineState) → i.header.number ≡ Some n → n ≡ s.expected → checked o s i ≡ f → HaveCauses (ClosesLater o s i) (on.in_order_by f n i s)
order_closes found.Fine o n i s k same e = type_closes i.verdict o n i s k same e refl
order_closes (found.Reject fault) o n i s k same e = record { each = (tt, (tt, (tt, (tt, tt)))) }
order_closes (found.RejectAndClose fault words why) o n i s k same e = record { each = (tt, (tt, (tt, (checked_closes o s i n fault words why k e, tt)))) }

neither : (a b : ℕ) → nat_lt a b ≡ false → nat_lt b a ≡ false → b ≡ a
neither a b p q = grind (arith, nat_tests)

later_by_number : (o : Options) (number : Option ℕ) (i : Inbound) (s : MachineState) → i.header.number ≡ number → HaveCauses (ClosesLater o s i) (on.by_number o number i s)
later_by_number o None i s k = record { each = (tt, (cause.ClosesLater.no_number k, (tt, (tt, tt)))) }
later_by_number o (Some n) i s k =
    closes_if (on.is_reset i) (on.reset_by (checked o s i) n i s) (if nat_lt s.expected n then on.too_high o n i s else (if nat_lt n s.expected then on.too_low n i s else on.in_order_by (checked o s i) n i s)) (λ t. reset_closes (checked o s i) o n i s k refl)
    (λ t. closes_if (nat_lt s.expected n) (on.too_high o n i s) (if nat_lt n s.expected then on.too_low n i s else on.in_order_by (checked o s i) n i s) (λ u. high_closes o n i s k (ltb-true s.expected n u))
    (λ u. closes_if (nat_lt n s.expected) (on.too_low n i s) (on.in_order_by (checked o s i) n i s) (λ v. low_closes o n i s k (ltb-true n s.expected v))
    (λ v. order_closes (checked o s i) o n i s k (neither s.expected n u v) refl)))

later_closes : (o : Options) (s : MachineState) (i : Inbound) → HaveCauses (ClosesLater o s i) (on.logged_on o s i)
later_closes o s i =
    closes_if (not (is_of_session o.identity i.header)) (refuse_with text.BeginString (number_or_0 i.header.number) refusal.BeginString s) (on.by_number o i.header.number i s)
    (λ t. record { each = (tt, (cause.ClosesLater.begin_string (not_true (is_of_session o.identity i.header) t), (tt, (tt, tt)))) })
    (λ t. later_by_number o i.header.number i s refl)

-- ---- the clock

window_closes : (p : Phase) (now : ℕ) (s : MachineState) {P : Why → Type 0} → P (OutOfWindow now) → HaveCauses P (clocks.out_of_window p now s)
window_closes Down now s h = record { each = (tt, (tt, (tt, (tt, tt)))) }
window_closes AwaitLogon now s h = record { each = (h, (tt, (tt, (tt, tt)))) }
window_closes Up now s h = record { each = (tt, (h, (tt, (tt, tt)))) }
window_closes LogoutSent now s h = record { each = (h, (tt, (tt, (tt, tt)))) }

-- what is due closes for a cause
abbrev IsDueFor : Options → MachineState → Option Due → Type 0
IsDueFor o s None = Unit {0}
IsDueFor o s (Some due.LogonLate) = (s.phase ≡ AwaitLogon) × (clocks.has_gone o.logon_timeout s.begun s.reading ≡ true)
IsDueFor o s (Some due.LogoutLate) = (s.phase ≡ LogoutSent) × (clocks.has_gone o.logout_timeout s.left_at s.reading ≡ true)
IsDueFor o s (Some (due.Silent since)) = (s.phase ≡ Up) × (s.test_request_sent_at ≡ Some since) × (clocks.is_silent s.heart since s.reading ≡ true)
IsDueFor o s (Some due.TestRequest) = Unit {0}
IsDueFor o s (Some due.Heartbeat) = Unit {0}

beat_due : (b : Bool) (o : Options) (s : MachineState) → IsDueFor o s (clocks.due_if b due.Heartbeat)
beat_due true o s = tt
beat_due false o s = tt

listened_due : (sent_at : Option ℕ) (o : Options) (s : MachineState) → s.phase ≡ Up → s.test_request_sent_at ≡ sent_at → IsDueFor o s (clocks.listened sent_at s s.reading)
listened_due (Some since) o s u is = by (clocks.is_silent s.heart since s.reading) refl
  where
    by : (b : Bool) → clocks.is_silent s.heart since s.reading ≡ b → IsDueFor o s (if b then Some (due.Silent since) else clocks.heartbeat_at s s.reading)
    by true e = (u, is, e)
    by false e = beat_due (clocks.has_gone s.heart s.sent_at s.reading) o s
listened_due None o s u is = by (clocks.is_silent s.heart s.read_at s.reading)
  where
    by : (b : Bool) → IsDueFor o s (if b then Some due.TestRequest else clocks.heartbeat_at s s.reading)
    by true = tt
    by false = beat_due (clocks.has_gone s.heart s.sent_at s.reading) o s

up_due : (b : Bool) (o : Options) (s : MachineState) → s.phase ≡ Up → IsDueFor o s (if b then None else clocks.listened s.test_request_sent_at s s.reading)
up_due true o s u = tt
up_due false o s u = listened_due s.test_request_sent_at o s u refl

logon_due : (b : Bool) (o : Options) (s : MachineState) → s.phase ≡ AwaitLogon → clocks.has_gone o.logon_timeout s.begun s.reading ≡ b → IsDueFor o s (clocks.due_if b due.LogonLate)
logon_due true o s p e = (p, e)
logon_due false o s p e = tt

logout_due : (b : Bool) (o : Options) (s : MachineState) → s.phase ≡ LogoutSent → clocks.has_gone o.logout_timeout s.left_at s.reading ≡ b → IsDueFor o s (clocks.due_if b due.LogoutLate)
logout_due true o s p e = (p, e)
logout_due false o s p e = tt

is_due : (p : Phase) (o : Options) (s : MachineState) → s.phase ≡ p → IsDueFor o s (clocks.due_in p o s s.reading)
is_due Down o s e = tt
is_due AwaitLogon o s e = logon_due (clocks.has_gone o.logon_timeout s.begun s.reading) o s e refl
is_due Up o s e = up_due (s.heart == 0) o s e
is_due LogoutSent o s e = logout_due (clocks.has_gone o.logout_timeout s.left_at s.reading) o s e refl

due_closes : (d : Option Due) (o : Options) (s : MachineState) (inside : Bool) → IsDueFor o s d → HaveCauses (ClosesInTime o s inside) (clocks.due_answer d s)
due_closes None o s inside h = record { each = (tt, (tt, (tt, (tt, tt)))) }
due_closes (Some due.LogonLate) o s inside h = record { each = (cause.logon_late h.0 h.1, (tt, (tt, (tt, tt)))) }
due_closes (Some due.LogoutLate) o s inside h = record { each = (cause.logout_late h.0 h.1, (tt, (tt, (tt, tt)))) }
due_closes (Some (due.Silent since)) o s inside h = record { each = (cause.is_silent_since since h.0 h.1 h.2, (tt, (tt, (tt, tt)))) }
due_closes (Some due.TestRequest) o s inside h = record { each = (tt, (tt, (tt, (tt, tt)))) }
due_closes (Some due.Heartbeat) o s inside h = record { each = (tt, (tt, (tt, (tt, tt)))) }

clock_closes : (o : Options) (s : MachineState) (inside : Bool) → HaveCauses (ClosesInTime o s inside) (clocks.clock o s inside)
clock_closes o s false = window_closes s.phase s.reading s (cause.out_of_window refl)
clock_closes o s true = due_closes (clocks.due_at o s s.reading) o s true (is_due s.phase o s refl)

-- ---- every event

moved_closes : {P : Why → Type 0} (gap : Option Requested) (o : Options) (s : MachineState) → HaveCauses P (moved_in gap o s)
moved_closes None o s = record { each = (tt, (tt, (tt, (tt, tt)))) }
moved_closes (Some gap) o s =
    closes_if (nat_lt gap.above s.expected) (silent (record s { resend_requested = None })) (if nat_lt 0 o.chunk && nat_lt gap.end s.expected then answer (ask_step o gap.above s ∷ []) (asked o gap.above s) else silent s) (λ t. record { each = (tt, (tt, (tt, (tt, tt)))) })
    (λ t. closes_if (nat_lt 0 o.chunk && nat_lt gap.end s.expected) (answer (ask_step o gap.above s ∷ []) (asked o gap.above s)) (silent s) (λ u. record { each = (tt, (tt, (tt, (tt, tt)))) }) (λ u. record { each = (tt, (tt, (tt, (tt, tt)))) }))

left_closes : {P : Why → Type 0} (p : Phase) (s : MachineState) → HaveCauses P (leave p s)
left_closes Down s = record { each = (tt, (tt, (tt, (tt, tt)))) }
left_closes AwaitLogon s = record { each = (tt, (tt, (tt, (tt, tt)))) }
left_closes Up s = record { each = (tt, (tt, (tt, (tt, tt)))) }
left_closes LogoutSent s = record { each = (tt, (tt, (tt, (tt, tt)))) }

message_closes : (p : Phase) (o : Options) (s : MachineState) (i : Inbound) → HaveCauses (MessageCloses p o s i) (message p o s i)
message_closes Down o s i = record { each = (tt, (tt, (tt, (tt, tt)))) }
message_closes AwaitLogon o s i = await_closes o s i
message_closes Up o s i = later_closes o s i
message_closes LogoutSent o s i = later_closes o s i

pub every_close : (o : Options) (s : MachineState) (e : EventSeen) → HaveCauses (IsCause o s e) (answer_to o s e)
every_close o s (Begin role now) = record { each = (tt, (tt, (tt, (tt, tt)))) }
every_close o s First = record { each = (tt, (tt, (tt, (tt, tt)))) }
every_close o s (Frame i) = message_closes s.phase o (heard s) i
every_close o s (Moved waiting) = moved_closes s.resend_requested o s
every_close o s (Clock now inside) = clock_closes o (read_clock now s) inside
every_close o s (Leave now) = left_closes s.phase (read_clock now s)
every_close o s Ended = record { each = (tt, (tt, (tt, (tt, tt)))) }
every_close o s (Wrote now) = record { each = (tt, (tt, (tt, (tt, tt)))) }
