-- The steps of the machine's answers may be done.
use Rattle.std.proofs.Common.{◌≡◌, ◌≢◌, ℕ, ◌≤◌, ◌+◌, ◌==◌, ◌&&◌, nat_lt, nat_le, Bool, true, false, if◌then◌else◌, List, [], ◌∷◌, codes, bytes_eq, Option, Some, None, Ok, refl, sym, ap, ◌∙◌, subst, arith}
use Rattle.std.specs.Prelude.{not, is_none}
use Rattle.std.specs.List.{AllByRecursion}
use Rattle.std.proofs.lemmas.Bool.{ltb-true, leb-true, eqb-true}
use Rattle.std.proofs.lemmas.Bool.Decides.{nat_tests}
use Rattle.fix_base.specs.declared.fault.Fault.{Fault}
use Rattle.fix_base.specs.Fields.{Field}
use Rattle.fix_base.specs.Message as message
use Rattle.fix_base.specs.Message.{Message, IsAdminNumbered}
use Rattle.fix_base.specs.EndStep.{Answer, AskedReset, OwnReset}
use Rattle.fix_base.specs.Says.{value_of, is_yes, is_admin_type, message_with, message_of, body_of}
use Rattle.fix_fields.specs.Header.{Header}
use Rattle.fix_admin.specs.Values.{fault_of}
use Rattle.fix_admin.specs.Admin as admin
use Rattle.fix_admin.specs.Admin.{AdminSeen, admin_of}
use Rattle.fix_admin.specs.Say as say
use Rattle.fix_admin.specs.Say.{SaySeen}
use Rattle.fix_admin.specs.declared.say.LogoutText.{LogoutText}
use Rattle.fix_admin.specs.declared.say.LogoutText.TheVariants as text
use Rattle.fix_machine.specs.declared.event.Refusal.{Refusal}
use Rattle.fix_machine.specs.declared.event.Refusal.TheVariants as refusal
use Rattle.fix_machine.specs.declared.event.Why.{Why}
use Rattle.fix_machine.specs.declared.event.Why.TheVariants.{LoggedOut, Refused}
use Rattle.fix_machine.specs.declared.state.Phase.{Phase}
use Rattle.fix_machine.specs.declared.state.Phase.TheVariants.{Down, AwaitLogon, Up, LogoutSent}
use Rattle.fix_machine.specs.declared.state.Role.{Role}
use Rattle.fix_machine.specs.declared.state.Role.TheVariants.{Acceptor, Initiator}
use Rattle.fix_machine.specs.declared.state.MachineState.{MachineState}
use Rattle.fix_machine.specs.declared.state.Options.{Options}
use Rattle.fix_machine.specs.State.{sent, counted, emptied, expecting, up}
use Rattle.fix_machine.specs.Event.{Inbound, VerdictSeen, App, Admin, Bad, StepSeen, Send, Serve, Stash, Expect, Reset, Confirm, Close, Nothing}
use Rattle.fix_machine.specs.Answer.{Answered, answer, padded, names, silent, refuse, refuse_with, reject, ask_step, asked, number_or_0, type_in, is_of_session}
use Rattle.fix_machine.specs.AwaitLogon as await
use Rattle.fix_machine.specs.Checks as found
use Rattle.fix_machine.specs.Checks.{FindingSeen, checked}
use Rattle.fix_machine.specs.LoggedOn as on
use Rattle.fix_machine.specs.Decide as decide
use Rattle.fix_steps.specs.Steps.{IsCarried}
use Rattle.fix_steps.specs.Lawful as lawful
use Rattle.fix_steps.specs.Lawful.{Standing, Clear, Open, IsFresh, IsNoReset, MayDoAll, MayAnswer, MayRenew}
use Rattle.fix_steps.specs.Told.{IsVerdict, IsTold, IsAskedBy}
use Rattle.fix_steps.proofs.ClearLemmas.{read_number}
use Rattle.fix_steps.proofs.ToldLemmas.{IsReset, is_reset, CountsAs, counts_app, counts_admin, counts_as, session_numbered, app_is, gap_is, reset_is, message_is}

-- the steps may be done, to some number; and the next message may be answered then
pub record May (x : Option Message) (n : ℕ) (steps : List StepSeen) : Type 0 where
  pub to : Standing
  pub number : ℕ
  pub fresh : IsFresh to
  pub may : MayAnswer x n steps to number

-- the same of steps that begin the numbers anew
pub record Renews (x : Option Message) (answer : Answer) (steps : List StepSeen) : Type 0 where
  pub to : Standing
  pub number : ℕ
  pub fresh : IsFresh to
  pub may : MayRenew x answer steps to number

-- the answer to the first message
pub data FirstMay (x : Option Message) (n : ℕ) (s : MachineState) (i : Inbound) (a : Answered) : Type 0 where
  first_refuses : a.next.phase ≡ Down → May None n a.steps → FirstMay x n s i a
  first_counts : i.reset ≡ false → May x n a.steps → FirstMay x n s i a
  first_renews : (answer : Answer) → s.role ≡ Acceptor → IsAskedBy i answer → Renews x answer a.steps → FirstMay x n s i a

-- ---- steps that do nothing

one_idle : {x : Option Message} {at : Standing} {n : ℕ} → MayDoAll x at n (Nothing ∷ []) at n
one_idle = lawful.first_may lawful.may_rest lawful.all_done

two_idle : {x : Option Message} {at : Standing} {n : ℕ} → MayDoAll x at n (Nothing ∷ Nothing ∷ []) at n
two_idle = lawful.first_may lawful.may_rest one_idle

three_idle : {x : Option Message} {at : Standing} {n : ℕ} → MayDoAll x at n (Nothing ∷ Nothing ∷ Nothing ∷ []) at n
three_idle = lawful.first_may lawful.may_rest two_idle

four_idle : {x : Option Message} {at : Standing} {n : ℕ} → MayDoAll x at n (Nothing ∷ Nothing ∷ Nothing ∷ Nothing ∷ []) at n
four_idle = lawful.first_may lawful.may_rest three_idle

-- ---- answers that need no message

module _ (x : Option Message) (n : ℕ) where
  pub nothing_may : May x n (Nothing ∷ Nothing ∷ Nothing ∷ Nothing ∷ [])
  nothing_may = record { to = Open; number = n; fresh = tt; may = four_idle }

  pub close_may : (why : Why) → May x n (Close why ∷ Nothing ∷ Nothing ∷ Nothing ∷ [])
  close_may why = record { to = Open; number = n; fresh = tt; may = lawful.first_may (lawful.may_close why) three_idle }

  pub say_may : (s : SaySeen) → IsNoReset s → May x n (Send s ∷ Nothing ∷ Nothing ∷ Nothing ∷ [])
  say_may s free = record { to = Open; number = n; fresh = tt; may = lawful.first_may (lawful.may_say s tt free) three_idle }

  pub say_close_may : (s : SaySeen) (why : Why) → IsNoReset s → May x n (Send s ∷ Close why ∷ Nothing ∷ Nothing ∷ [])
  say_close_may s why free = record { to = Open; number = n; fresh = tt; may = lawful.first_may (lawful.may_say s tt free) (lawful.first_may (lawful.may_close why) two_idle) }

  say_say_close_may : (s t : SaySeen) (why : Why) → IsNoReset s → IsNoReset t → May x n (Send s ∷ Send t ∷ Close why ∷ Nothing ∷ [])
  say_say_close_may s t why free clear = record {
    to = Open;
    number = n;
    fresh = tt;
    may = lawful.first_may (lawful.may_say s tt free) (lawful.first_may (lawful.may_say t tt clear) (lawful.first_may (lawful.may_close why) one_idle));
  }

  out_may : (p : Phase) (k : ℕ) → May x n (padded (on.logout_steps p k))
  out_may Down k = close_may (LoggedOut k)
  out_may AwaitLogon k = close_may (LoggedOut k)
  out_may Up k = say_close_may (say.Logout text.Empty) (LoggedOut k) tt
  out_may LogoutSent k = close_may (LoggedOut k)

-- ---- choices

module _ (x : Option Message) (frame : Option (List ℕ)) (n : ℕ) where
  -- where its steps are carried out here they may be done
  abbrev Claim : Answered → Type 0
  Claim a = AllByRecursion (IsCarried frame) a.steps → May x n a.steps

  either : (b : Bool) (p q : Answered) → (b ≡ true → Claim p) → (b ≡ false → Claim q) → Claim (if b then p else q)
  either true p q h k = h refl
  either false p q h k = k refl

neither : (a b : ℕ) → nat_lt a b ≡ false → nat_lt b a ≡ false → b ≡ a
neither a b p q = grind (arith, nat_tests)

-- the number isn't below the expected one where nothing is reset
not_low : (a b : Bool) → (a && (not false && not (false && b))) ≡ false → a ≡ false
not_low true b e = cc
not_low false b e = refl

role_low : (a r : Bool) → (a && (not false && not (r && false))) ≡ false → a ≡ false
role_low true true e = cc
role_low true false e = cc
role_low false r e = refl

both_true : (a b : Bool) → (a && not b) ≡ true → (a ≡ true) × (b ≡ false)
both_true true true e = cc
both_true true false e = (refl, refl)
both_true false b e = cc

not_both : (a b : Bool) → (a && not b) ≡ false → a ≡ true → b ≡ true
not_both true true e h = refl
not_both true false e h = cc
not_both false b e h = cc

-- ---- the answers to a message

module _ (fs : List Field) (i : Inbound) (told : IsTold fs i) (frame : Option (List ℕ)) where
  abbrev said : Option Message
  said = message_of fs

  abbrev type : List ℕ
  type = told.type

  names_is : (t : List ℕ) → names i.header.type t ≡ bytes_eq type t
  names_is t = ap (λ (h : Header). names h.type t) told.header ∙ ap (λ (o : Option (List ℕ)). names o t) told.typed

  message_at : (n : ℕ) → i.header.number ≡ Some n → said ≡ Some (message_with type n fs)
  message_at n number = message_is type n fs told.typed (sym (ap (λ (h : Header). h.number) told.header) ∙ number)

  -- a gap is asked for
  ask_may : (o : Options) (k n : ℕ) (s : MachineState) → Claim said frame n (on.then_ask o k [] s)
  ask_may o k n s = either said frame n (is_none s.resend_requested) (answer (ask_step o k s ∷ []) (asked o k s)) (answer [] s) (λ e fit. say_may said n (say.ResendRequest _ _) tt) (λ e fit. nothing_may said n)

  serve_may : (o : Options) (k n from to : ℕ) (s : MachineState) → Claim said frame n (on.then_ask o k (Serve from to ∷ []) s)
  serve_may o k n from to s = either said frame n (is_none s.resend_requested) (answer (Serve from to ∷ ask_step o k s ∷ []) (asked o k s)) (answer (Serve from to ∷ []) s)
      (λ e fit. record { to = Open; number = n; fresh = tt; may = lawful.first_may (lawful.may_serve _ _) (lawful.first_may (lawful.may_say (say.ResendRequest _ _) tt tt) two_idle) })
      (λ e fit. record { to = Clear; number = n; fresh = tt; may = lawful.first_may (lawful.may_serve _ _) three_idle })

  stash_may : (o : Options) (k n : ℕ) (s : MachineState) → Claim said frame n (on.then_ask o k (Stash ∷ []) s)
  stash_may o k n s = either said frame n (is_none s.resend_requested) (answer (Stash ∷ ask_step o k s ∷ []) (asked o k s)) (answer (Stash ∷ []) s)
      (λ e fit. record { to = Open; number = n; fresh = tt; may = lawful.first_may lawful.may_wait (lawful.first_may (lawful.may_say (say.ResendRequest _ _) tt tt) two_idle) })
      (λ e fit. record { to = Open; number = n; fresh = tt; may = lawful.first_may lawful.may_wait three_idle })

  refuse_with_may : (t : LogoutText) (k n : ℕ) (cause : Refusal) (s : MachineState) → Claim said frame n (refuse_with t k cause s)
  refuse_with_may t k n cause s fit = say_close_may said n (say.Logout t) (Refused k cause) tt

  refuse_may : (k n : ℕ) (cause : Refusal) (s : MachineState) → Claim said frame n (refuse k cause s)
  refuse_may k n cause s fit = close_may said n (Refused k cause)

  -- ---- a message of the expected number

  module _ (n : ℕ) (number : i.header.number ≡ Some n) where
    abbrev y : Message
    y = message_with type n fs

    is : said ≡ Some y
    is = message_at n number

    counted_may : IsAdminNumbered n y → May said n (Expect (n + 1) ∷ Nothing ∷ Nothing ∷ Nothing ∷ [])
    counted_may at = record { to = Open; number = n + 1; fresh = tt; may = lawful.first_may (lawful.passes_admin y is at tt) three_idle }

    rejected_by : (z : Message) → said ≡ Some z → CountsAs n z → (t : List ℕ) (f : Fault) → May said n (Send (say.Reject n t f) ∷ Expect (n + 1) ∷ Nothing ∷ Nothing ∷ [])
    rejected_by z same (counts_app marked body) t f = record { to = Open; number = n + 1; fresh = tt; may = lawful.first_may (lawful.may_reject marked body t f same tt) (lawful.first_may (lawful.passes_app marked body same) two_idle) }
    rejected_by z same (counts_admin _ at) t f = record { to = Open; number = n + 1; fresh = tt; may = lawful.first_may (lawful.may_say (say.Reject n t f) tt tt) (lawful.first_may (lawful.passes_admin z same at tt) two_idle) }

    closed_by : (z : Message) → said ≡ Some z → CountsAs n z → (t : List ℕ) (f : Fault) (out : SaySeen) (why : Why) → IsNoReset out → May said n (Send (say.Reject n t f) ∷ Expect (n + 1) ∷ Send out ∷ Close why ∷ [])
    closed_by z same (counts_app marked body) t f out why free = record {
      to = Open;
      number = n + 1;
      fresh = tt;
      may = lawful.first_may (lawful.may_reject marked body t f same tt) (lawful.first_may (lawful.passes_app marked body same) (lawful.first_may (lawful.may_say out tt free) (lawful.first_may (lawful.may_close why) lawful.all_done)));
    }
    closed_by z same (counts_admin _ at) t f out why free = record {
      to = Open;
      number = n + 1;
      fresh = tt;
      may = lawful.first_may (lawful.may_say (say.Reject n t f) tt tt) (lawful.first_may (lawful.passes_admin z same at tt) (lawful.first_may (lawful.may_say out tt free) (lawful.first_may (lawful.may_close why) lawful.all_done)));
    }

    rejected_may : (f : Fault) (s : MachineState) → Claim said frame n (on.rejected f n i s)
    rejected_may f s fit = rejected_by y is (counts_as type n fs) (type_in i.header) f

    handed_may : is_admin_type type ≡ false → (s : MachineState) → Claim said frame n (on.handed n s)
    handed_may app s fit =
        let same : said ≡ Some (message.App n (is_yes (value_of 43 fs)) (body_of fs)) = is ∙ ap Some (app_is type n fs app) in
        record { to = Open; number = n + 1; fresh = tt; may = lawful.first_may (lawful.may_hand (is_yes (value_of 43 fs)) (body_of fs) same) (lawful.first_may (lawful.passes_app (is_yes (value_of 43 fs)) (body_of fs) same) two_idle) }

    filled_may : (next : ℕ) → IsReset type fs next → is_yes (value_of 123 fs) ≡ true → (s : MachineState) → Claim said frame n (on.filled next n i s)
    filled_may next reset filling s =
        either said frame n (nat_lt n next) (answer (Expect next ∷ []) (expecting next s)) (on.rejected (fault_of 5 36) n i s)
        (λ e fit. record { to = Open; number = next; fresh = tt; may = lawful.first_may (lawful.passes_gap next (is ∙ ap Some (gap_is type n next fs reset filling)) (ltb-true n next e) tt) three_idle })
        (λ e. rejected_may (fault_of 5 36) s)

    logout_may : (p : Phase) (s : MachineState) → is_admin_type type ≡ true → Claim said frame n (answer (Expect (n + 1) ∷ on.logout_steps p n) s)
    logout_may Down s session fit = record { to = Open; number = n + 1; fresh = tt; may = lawful.first_may (lawful.passes_admin y is (session_numbered type n fs session) tt) (lawful.first_may (lawful.may_close (LoggedOut n)) two_idle) }
    logout_may AwaitLogon s session fit = record { to = Open; number = n + 1; fresh = tt; may = lawful.first_may (lawful.passes_admin y is (session_numbered type n fs session) tt) (lawful.first_may (lawful.may_close (LoggedOut n)) two_idle) }
    logout_may Up s session fit = record { to = Open; number = n + 1; fresh = tt; may = lawful.first_may (lawful.passes_admin y is (session_numbered type n fs session) tt) (lawful.first_may (lawful.may_say (say.Logout text.Empty) tt tt) (lawful.first_may (lawful.may_close (LoggedOut n)) one_idle)) }
    logout_may LogoutSent s session fit = record { to = Open; number = n + 1; fresh = tt; may = lawful.first_may (lawful.passes_admin y is (session_numbered type n fs session) tt) (lawful.first_may (lawful.may_close (LoggedOut n)) two_idle) }

    again_may : (reset : Bool) (s : MachineState) → is_admin_type type ≡ true → Claim said frame n (on.logged_on_again reset n s)
    again_may true s session fit = refuse_with_may text.ResetFlag n n refusal.ResetAsked s fit
    again_may false s session fit = counted_may (session_numbered type n fs session)

    -- where it isn't a SequenceReset without GapFillFlag (123)
    module _ (plain : on.is_reset i ≡ false) where
      filling : (next : ℕ) → IsReset type fs next → is_yes (value_of 123 fs) ≡ true
      filling next reset = sym told.gap ∙ not_both (names i.header.type (codes "4")) i.gap plain (names_is (codes "4") ∙ reset.four)

      session_may : (a : AdminSeen) → is_admin_type type ≡ true → admin_of type fs ≡ Ok a → (s : MachineState) → Claim said frame n (on.session_message a n i s)
      session_may (admin.Heartbeat id) session of s fit = counted_may (session_numbered type n fs session)
      session_may (admin.TestRequest id) session of s fit = record { to = Open; number = n + 1; fresh = tt; may = lawful.first_may (lawful.may_say (say.Heartbeat (Some id)) tt tt) (lawful.first_may (lawful.passes_admin y is (session_numbered type n fs session) tt) two_idle) }
      session_may (admin.ResendRequest from to) session of s fit = record { to = Clear; number = n + 1; fresh = tt; may = lawful.first_may (lawful.passes_admin y is (session_numbered type n fs session) tt) (lawful.first_may (lawful.may_serve _ _) two_idle) }
      session_may (admin.Reject about) session of s fit = counted_may (session_numbered type n fs session)
      session_may (admin.SequenceReset next gap) session of s fit = let reset = is_reset type fs next gap of in filled_may next reset (filling next reset) s fit
      session_may admin.Logout session of s fit = logout_may s.phase (on.logged_out s.phase (counted n s)) session fit
      session_may (admin.Logon heart reset version) session of s fit = again_may i.reset s session fit

      type_may : (v : VerdictSeen) → IsVerdict type fs v → (s : MachineState) → Claim said frame n (on.by_type v n i s)
      type_may App of s = handed_may of s
      type_may (Admin a) of s = session_may a of.0 of.1 s
      type_may (Bad fault) of s = rejected_may fault s

      order_may : (f : FindingSeen) (s : MachineState) → Claim said frame n (on.in_order_by f n i s)
      order_may found.Fine s fit = type_may i.verdict told.verdict s fit
      order_may (found.Reject fault) s fit = rejected_may fault s fit
      order_may (found.RejectAndClose fault t cause) s fit = closed_by y is (counts_as type n fs) (type_in i.header) fault (say.Logout t) (Refused n cause) tt

    -- ---- a SequenceReset without GapFillFlag (123)

    module _ (s : MachineState) (four : names i.header.type (codes "4") ≡ true) (unfilled : i.gap ≡ false) where
      reset_by_may : (v : VerdictSeen) → IsVerdict type fs v → Claim said frame s.expected (on.reset_to (on.new_seq_no_in v) n i s)
      reset_by_may v of = either said frame s.expected (nat_le s.expected (on.new_seq_no_in v)) (answer (Expect (on.new_seq_no_in v) ∷ []) (expecting (on.new_seq_no_in v) s)) (answer (reject n (type_in i.header) (fault_of 5 36) ∷ []) (sent s))
          (λ e fit. goes v of e fit.0) (λ e fit. say_may said s.expected (say.Reject n (type_in i.header) (fault_of 5 36)) tt)
        where
          none : (k : ℕ) → k ≡ 0 → 1 ≤ k → ⊥
          none k zeroed some = omega (arith, zeroed, some)

          goes_admin : (a : AdminSeen) → admin_of type fs ≡ Ok a → nat_le s.expected (on.new_seq_no_of a) ≡ true → (1 ≤ on.new_seq_no_of a) × (on.new_seq_no_of a ≤ 1000000000) → May said s.expected (Expect (on.new_seq_no_of a) ∷ Nothing ∷ Nothing ∷ Nothing ∷ [])
          goes_admin (admin.Heartbeat id) is_so e fit = absurd (none 0 refl fit.0)
          goes_admin (admin.TestRequest id) is_so e fit = absurd (none 0 refl fit.0)
          goes_admin (admin.ResendRequest from to) is_so e fit = absurd (none 0 refl fit.0)
          goes_admin (admin.Reject about) is_so e fit = absurd (none 0 refl fit.0)
          goes_admin (admin.SequenceReset next gap) is_so e fit =
              let reset = is_reset type fs next gap is_so in
              record { to = Open; number = next; fresh = tt; may = lawful.first_may (lawful.resets_to n next (is ∙ ap Some (reset_is type n next fs reset (sym told.gap ∙ unfilled))) (leb-true s.expected next e) tt) three_idle }
          goes_admin admin.Logout is_so e fit = absurd (none 0 refl fit.0)
          goes_admin (admin.Logon heart reset version) is_so e fit = absurd (none 0 refl fit.0)

          goes : (v : VerdictSeen) → IsVerdict type fs v → nat_le s.expected (on.new_seq_no_in v) ≡ true → (1 ≤ on.new_seq_no_in v) × (on.new_seq_no_in v ≤ 1000000000) → May said s.expected (Expect (on.new_seq_no_in v) ∷ Nothing ∷ Nothing ∷ Nothing ∷ [])
          goes App of e fit = absurd (none 0 refl fit.0)
          goes (Admin a) of e fit = goes_admin a of.1 e fit
          goes (Bad fault) of e fit = absurd (none 0 refl fit.0)

      reset_may : (f : FindingSeen) → Claim said frame s.expected (on.reset_by f n i s)
      reset_may found.Fine fit = reset_by_may i.verdict told.verdict fit
      reset_may (found.Reject fault) fit = say_may said s.expected (say.Reject n (type_in i.header) fault) tt
      reset_may (found.RejectAndClose fault t cause) fit = say_say_close_may said s.expected (say.Reject n (type_in i.header) fault) (say.Logout t) (Refused n cause) tt tt

  -- ---- the table after the Logon

  served_may : (a : AdminSeen) (o : Options) (k n : ℕ) (s : MachineState) → Claim said frame n (on.served_early a o k s)
  served_may (admin.Heartbeat id) o k n s fit = ask_may o k n s fit
  served_may (admin.TestRequest id) o k n s fit = ask_may o k n s fit
  served_may (admin.ResendRequest from to) o k n s fit = serve_may o k n from to s fit
  served_may (admin.Reject about) o k n s fit = ask_may o k n s fit
  served_may (admin.SequenceReset next gap) o k n s fit = ask_may o k n s fit
  served_may admin.Logout o k n s fit = out_may said n s.phase k
  served_may (admin.Logon heart reset version) o k n s fit = ask_may o k n s fit

  early_may : (v : VerdictSeen) (o : Options) (k n : ℕ) (s : MachineState) → Claim said frame n (on.early_of v o k s)
  early_may App o k n s = ask_may o k n s
  early_may (Admin a) o k n s = served_may a o k n s
  early_may (Bad fault) o k n s = ask_may o k n s

  early_by_may : (f : FindingSeen) (o : Options) (k n : ℕ) (s : MachineState) → Claim said frame n (on.early_by f o k i s)
  early_by_may found.Fine o k n s = early_may i.verdict o k n s
  early_by_may (found.Reject fault) o k n s = ask_may o k n s
  early_by_may (found.RejectAndClose fault t cause) o k n s = ask_may o k n s

  high_may : (o : Options) (k n : ℕ) (s : MachineState) → Claim said frame n (on.too_high o k i s)
  high_may o k n s =
      either said frame n (on.is_early i) (on.early_by (checked o s i) o k i s) (if i.full then on.then_ask o k [] s else on.then_ask o k (Stash ∷ []) s) (λ e. early_by_may (checked o s i) o k n s)
      (λ e. either said frame n i.full (on.then_ask o k [] s) (on.then_ask o k (Stash ∷ []) s) (λ f. ask_may o k n s) (λ f. stash_may o k n s))

  low_may : (k n : ℕ) (s : MachineState) → Claim said frame n (on.too_low k i s)
  low_may k n s =
      either said frame n (names i.header.poss_dup (codes "Y")) (silent s) (refuse_with (text.TooLow s.expected k) k refusal.TooLow s) (λ e fit. nothing_may said n) (λ e. refuse_with_may (text.TooLow s.expected k) k n refusal.TooLow s)

  at_expected : (n : ℕ) (s : MachineState) (a : Answered) → n ≡ s.expected → Claim said frame n a → Claim said frame s.expected a
  at_expected n s a e h = subst (λ (k : ℕ). Claim said frame k a) e h

  numbered_may : (o : Options) (n : ℕ) (s : MachineState) → i.header.number ≡ Some n → Claim said frame s.expected (on.numbered o n i s)
  numbered_may o n s number =
      either said frame s.expected (on.is_reset i) (on.reset_by (checked o s i) n i s) (if nat_lt s.expected n then on.too_high o n i s else (if nat_lt n s.expected then on.too_low n i s else on.in_order_by (checked o s i) n i s))
      (λ e. let t = both_true (names i.header.type (codes "4")) i.gap e in reset_may n number s t.0 t.1 (checked o s i))
      (λ plain. either said frame s.expected (nat_lt s.expected n) (on.too_high o n i s) (if nat_lt n s.expected then on.too_low n i s else on.in_order_by (checked o s i) n i s) (λ e. high_may o n s.expected s)
      (λ high. either said frame s.expected (nat_lt n s.expected) (on.too_low n i s) (on.in_order_by (checked o s i) n i s) (λ e. low_may n s.expected s)
      (λ low. at_expected n s (on.in_order_by (checked o s i) n i s) (neither s.expected n high low) (order_may n number plain (checked o s i) s))))

  later_by_number : (o : Options) (number : Option ℕ) (s : MachineState) → i.header.number ≡ number → Claim said frame s.expected (on.by_number o number i s)
  later_by_number o None s is_so = refuse_with_may text.NoNumber 0 s.expected refusal.NoNumber s
  later_by_number o (Some n) s is_so = numbered_may o n s is_so

  later_may : (o : Options) (s : MachineState) → Claim said frame s.expected (on.logged_on o s i)
  later_may o s =
      either said frame s.expected (not (is_of_session o.identity i.header)) (refuse_with text.BeginString (number_or_0 i.header.number) refusal.BeginString s) (on.by_number o i.header.number i s)
      (λ e. refuse_with_may text.BeginString (number_or_0 i.header.number) s.expected refusal.BeginString s) (λ e. later_by_number o i.header.number s refl)

  -- ---- the first message

  plain_by : (t : Bool) (o : Options) (n heart : ℕ) (s u : MachineState) → i.header.number ≡ Some n → is_admin_type type ≡ true → (t ≡ false → n ≡ s.expected) → Claim said frame s.expected (answer (await.logon o heart false ∷ (if t then ask_step o n (await.answered heart s) else Expect (n + 1)) ∷ []) u)
  plain_by true o n heart s u number session same fit = record { to = Open; number = s.expected; fresh = tt; may = lawful.first_may (lawful.may_say (say.Logon heart false o.version) tt refl) (lawful.first_may (lawful.may_say (say.ResendRequest _ _) tt tt) two_idle) }
  plain_by false o n heart s u number session same fit =
      at_expected n s (answer (await.logon o heart false ∷ Expect (n + 1) ∷ []) u) (same refl)
      (λ fit. record { to = Open; number = n + 1; fresh = tt; may = lawful.first_may (lawful.may_say (say.Logon heart false o.version) tt refl) (lawful.first_may (lawful.passes_admin (message_with type n fs) (message_at n number) (session_numbered type n fs session) tt) two_idle) }) fit

  up_by : (t : Bool) (o : Options) (n : ℕ) (s u : MachineState) → i.header.number ≡ Some n → is_admin_type type ≡ true → (t ≡ false → n ≡ s.expected) → Claim said frame s.expected (answer ((if t then ask_step o n (up s) else Expect (n + 1)) ∷ []) u)
  up_by true o n s u number session same fit = say_may said s.expected (say.ResendRequest _ _) tt
  up_by false o n s u number session same fit =
      at_expected n s (answer (Expect (n + 1) ∷ []) u) (same refl) (λ fit. counted_may n number (session_numbered type n fs session)) fit

  -- what may be done at the first message, where no reset is asked for by this end
  abbrev Begins : MachineState → Answered → Type 0
  Begins s a = AllByRecursion (IsCarried frame) a.steps → FirstMay said s.expected s i a

  pick : (s : MachineState) (b : Bool) (p q : Answered) → (b ≡ true → Begins s p) → (b ≡ false → Begins s q) → Begins s (if b then p else q)
  pick s true p q h k = h refl
  pick s false p q h k = k refl

  refuse_first : (k : ℕ) (cause : Refusal) (s : MachineState) → Begins s (refuse k cause s)
  refuse_first k cause s fit = first_refuses refl (close_may None s.expected (Refused k cause))

  refuse_with_first : (t : LogoutText) (k : ℕ) (cause : Refusal) (s : MachineState) → Begins s (refuse_with t k cause s)
  refuse_with_first t k cause s fit = first_refuses refl (say_close_may None s.expected (say.Logout t) (Refused k cause) tt)

  -- after a reset number 1 is expected
  first_number : (n : ℕ) → i.header.number ≡ Some n → nat_lt 1 n ≡ false → n ≡ 1
  first_number n number low =
      let some = read_number fs n (sym (ap (λ (h : Header). h.number) told.header) ∙ number) in
      grind (arith, nat_tests, some.0)

  logon_message : (n : ℕ) → i.header.number ≡ Some n → n ≡ 1 → said ≡ Some (message_with type 1 fs)
  logon_message n number one = message_at n number ∙ ap (λ k. Some (message_with type k fs)) one

  reset_first : (o : Options) (n heart : ℕ) (s : MachineState) → names i.header.type (codes "A") ≡ true → i.header.number ≡ Some n → n ≡ 1 → is_admin_type type ≡ true → s.role ≡ Acceptor → i.reset ≡ true → Begins s (await.reset_answer o n heart s)
  reset_first o n heart s logon number one session role reset fit =
      first_renews AskedReset role (logon, reset, number ∙ ap Some one) (record {
        to = Open;
        number = 2;
        fresh = tt;
        may = lawful.renews_asked heart o.version
            (subst (λ k. MayDoAll said Open 1 (Expect (k + 1) ∷ Nothing ∷ []) Open 2) (sym one)
            (lawful.first_may (lawful.passes_admin (message_with type 1 fs) (logon_message n number one) (session_numbered type 1 fs session) tt) one_idle));
      })

  own_by : (t : Bool) (o : Options) (n heart : ℕ) (s u : MachineState) → names i.header.type (codes "A") ≡ true → i.header.number ≡ Some n → (t ≡ false → n ≡ 1) → is_admin_type type ≡ true → s.role ≡ Acceptor → i.reset ≡ false
      → Begins s (answer (Reset ∷ await.logon o heart false ∷ (if t then ask_step o n (await.answered heart (emptied s)) else Expect (n + 1)) ∷ []) u)
  own_by true o n heart s u logon number same session role reset fit =
      first_renews OwnReset role (logon, reset) (record {
        to = Open;
        number = 1;
        fresh = tt;
        may = lawful.renews_own (lawful.first_may (lawful.may_say (say.Logon heart false o.version) tt refl) (lawful.first_may (lawful.may_say (say.ResendRequest _ _) tt tt) one_idle));
      })
  own_by false o n heart s u logon number same session role reset fit =
      first_renews OwnReset role (logon, reset) (record {
        to = Open;
        number = 2;
        fresh = tt;
        may = lawful.renews_own (lawful.first_may (lawful.may_say (say.Logon heart false o.version) tt refl)
            (subst (λ k. MayDoAll said Open 1 (Expect (k + 1) ∷ Nothing ∷ []) Open 2) (sym (same refl))
            (lawful.first_may (lawful.passes_admin (message_with type 1 fs) (logon_message n number (same refl)) (session_numbered type 1 fs session) tt) one_idle)));
      })

  acceptor_first : (o : Options) (reset each : Bool) (n heart : ℕ) (s : MachineState) → names i.header.type (codes "A") ≡ true → i.header.number ≡ Some n → is_admin_type type ≡ true → s.role ≡ Acceptor → i.reset ≡ reset → (reset ≡ true → n ≡ 1) → (nat_lt n s.expected && (not reset && not (each && true))) ≡ false
      → Begins s (if reset then await.reset_answer o n heart s else (if each then await.own_reset_answer o n heart s else await.plain_answer o n heart s))
  acceptor_first o true each n heart s logon number session role flag one low fit = reset_first o n heart s logon number (one refl) session role flag fit
  acceptor_first o false true n heart s logon number session role flag one low fit =
      own_by (nat_lt 1 n) o n heart s (await.counted_or_asked o n (await.answered heart (emptied s))) logon number (first_number n number) session role flag fit
  acceptor_first o false false n heart s logon number session role flag one low fit =
      first_counts flag (plain_by (nat_lt s.expected n) o n heart s (await.counted_or_asked o n (await.answered heart s)) number session (λ high. neither s.expected n high (not_low (nat_lt n s.expected) true low)) fit)

  initiator_first : (asks : Bool) (o : Options) (reset : Bool) (n : ℕ) (s : MachineState) → asks ≡ false → i.header.number ≡ Some n → is_admin_type type ≡ true → i.reset ≡ reset → (nat_lt n s.expected && (not reset && not (o.reset_on_logon && false))) ≡ false
      → Begins s (if asks then (if reset then answer (Confirm ∷ Expect (n + 1) ∷ []) (counted n (await.confirmed s)) else refuse n refusal.ResetUnanswered s) else (if reset then refuse n refusal.ResetAsked s else answer (await.count_or_ask o n (up s) ∷ []) (await.counted_or_asked o n (up s))))
  initiator_first true o reset n s none number session flag low fit = cc
  initiator_first false o true n s none number session flag low fit = refuse_first n refusal.ResetAsked s fit
  initiator_first false o false n s none number session flag low fit =
      first_counts flag (up_by (nat_lt s.expected n) o n s (await.counted_or_asked o n (up s)) number session (λ high. neither s.expected n high (role_low (nat_lt n s.expected) o.reset_on_logon low)) fit)

  taken_first : (side : Role) (o : Options) (reset : Bool) (n heart : ℕ) (s : MachineState) → s.role ≡ side → s.reset_asked ≡ false → names i.header.type (codes "A") ≡ true → i.header.number ≡ Some n → is_admin_type type ≡ true → i.reset ≡ reset → (reset ≡ true → n ≡ 1) → (nat_lt n s.expected && (not reset && not (o.reset_on_logon && await.is_acceptor side))) ≡ false
      → Begins s (await.taken side o reset n heart s)
  taken_first Acceptor o reset n heart s role none logon number session flag one low = acceptor_first o reset o.reset_on_logon n heart s logon number session role flag one low
  taken_first Initiator o reset n heart s role none logon number session flag one low = initiator_first s.reset_asked o reset n s none number session flag low

  only_one : (reset : Bool) (n : ℕ) → (reset && not (n == 1)) ≡ false → reset ≡ true → n ≡ 1
  only_one true n e h = eqb-true n 1 (not_both true (n == 1) e refl)
  only_one false n e h = cc

  logon_first : (heart : Option ℕ) (o : Options) (reset : Bool) (n : ℕ) (s : MachineState) → s.reset_asked ≡ false → names i.header.type (codes "A") ≡ true → i.header.number ≡ Some n → ((h : ℕ) → heart ≡ Some h → is_admin_type type ≡ true) → i.reset ≡ reset → await.is_too_low o n s reset ≡ false → Begins s (await.logon_answer heart o reset n s)
  logon_first None o reset n s none logon number session flag low = refuse_first n refusal.BadLogon s
  logon_first (Some heart) o reset n s none logon number session flag low =
      pick s (reset && not (n == 1)) (refuse n refusal.BadLogon s) (await.taken s.role o reset n heart s) (λ e. refuse_first n refusal.BadLogon s)
      (λ e. taken_first s.role o reset n heart s refl none logon number (session heart refl) flag (only_one reset n e) low)

  -- a Logon with a HeartBtInt (108) is a session message
  heart_session : (o : Options) (v : VerdictSeen) → IsVerdict type fs v → (h : ℕ) → await.heart_in o v ≡ Some h → is_admin_type type ≡ true
  heart_session o App of h e = cc
  heart_session o (Admin a) of h e = of.0
  heart_session o (Bad fault) of h e = cc

  first_by_number : (o : Options) (number : Option ℕ) (s : MachineState) → s.reset_asked ≡ false → names i.header.type (codes "A") ≡ true → i.header.number ≡ number → Begins s (await.by_number o number s i)
  first_by_number o None s none logon is_so = refuse_first 0 refusal.NoNumber s
  first_by_number o (Some n) s none logon is_so =
      pick s (await.is_too_low o n s i.reset) (refuse_with (text.TooLow s.expected n) n refusal.TooLow s) (if not (await.is_addressed o.identity i.header) then refuse n refusal.CompId s else (if not (await.is_near o.latency s.reading i.sent) then refuse n refusal.SendingTime s else await.logon_answer (await.heart_in o i.verdict) o i.reset n s)) (λ e. refuse_with_first (text.TooLow s.expected n) n refusal.TooLow s)
      (λ low. pick s (not (await.is_addressed o.identity i.header)) (refuse n refusal.CompId s) (if not (await.is_near o.latency s.reading i.sent) then refuse n refusal.SendingTime s else await.logon_answer (await.heart_in o i.verdict) o i.reset n s) (λ e. refuse_first n refusal.CompId s)
      (λ e. pick s (not (await.is_near o.latency s.reading i.sent)) (refuse n refusal.SendingTime s) (await.logon_answer (await.heart_in o i.verdict) o i.reset n s) (λ f. refuse_first n refusal.SendingTime s)
      (λ f. logon_first (await.heart_in o i.verdict) o i.reset n s none logon is_so (heart_session o i.verdict told.verdict) refl low)))

  is_true : (b : Bool) → not b ≡ false → b ≡ true
  is_true true e = refl
  is_true false e = cc

  pub await_may : (o : Options) (s : MachineState) → s.reset_asked ≡ false → Begins s (await.await_logon o s i)
  await_may o s none =
      pick s (not (names i.header.type (codes "A"))) (refuse (number_or_0 i.header.number) refusal.NotLogon s) (if not (is_of_session o.identity i.header) then refuse (number_or_0 i.header.number) refusal.BeginString s else await.by_number o i.header.number s i) (λ e. refuse_first (number_or_0 i.header.number) refusal.NotLogon s)
      (λ e. pick s (not (is_of_session o.identity i.header)) (refuse (number_or_0 i.header.number) refusal.BeginString s) (await.by_number o i.header.number s i) (λ f. refuse_first (number_or_0 i.header.number) refusal.BeginString s) (λ f. first_by_number o i.header.number s none (is_true (names i.header.type (codes "A")) e) refl))

  pub message_may : (p : Phase) (o : Options) (s : MachineState) → p ≢ AwaitLogon → Claim said frame s.expected (decide.message p o s i)
  message_may Down o s later fit = nothing_may said s.expected
  message_may AwaitLogon o s later fit = absurd (later refl)
  message_may Up o s later fit = later_may o s fit
  message_may LogoutSent o s later fit = later_may o s fit
