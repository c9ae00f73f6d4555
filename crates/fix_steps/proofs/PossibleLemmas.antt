-- The steps of the machine's answers can be carried out, and its numbers stay bounded.
use Rattle.std.proofs.Common.{◌≡◌, ℕ, ◌<◌, ◌≤◌, ◌+◌, ◌-◌, ◌==◌, ◌&&◌, nat_lt, nat_le, min, Bool, true, false, if◌then◌else◌, List, [], ◌∷◌, codes, Option, Some, None, refl, sym, ap, ◌∙◌, subst, inl, inr, ◌⊎◌, arith}
use Rattle.std.specs.Prelude.{not, is_none, IfSome}
use Rattle.std.proofs.lemmas.Bool.{ltb-true, ltb-false, leb-true, eqb-false}
use Rattle.fix_base.specs.declared.fault.Fault.{Fault}
use Rattle.fix_base.specs.Fields.{Field}
use Rattle.fix_base.specs.Frame.{HasNoSoh}
use Rattle.fix_base.specs.Says.{HasFields, value_of}
use Rattle.fix_base.specs.Wrote.{IsRequestRange}
use Rattle.fix_fields.specs.Header.{Header}
use Rattle.fix_admin.specs.Values.{fault_of}
use Rattle.fix_admin.specs.Admin as admin
use Rattle.fix_admin.specs.Admin.{AdminSeen, admin_of}
use Rattle.fix_admin.specs.declared.say.LogoutText.{LogoutText}
use Rattle.fix_admin.specs.declared.say.LogoutText.TheVariants as text
use Rattle.fix_machine.specs.declared.event.Refusal.{Refusal}
use Rattle.fix_machine.specs.declared.event.Refusal.TheVariants as refusal
use Rattle.fix_machine.specs.declared.clock.Due.{Due}
use Rattle.fix_machine.specs.declared.clock.Due.TheVariants as due
use Rattle.fix_machine.specs.declared.state.Phase.{Phase}
use Rattle.fix_machine.specs.declared.state.Phase.TheVariants.{Down, AwaitLogon, Up, LogoutSent}
use Rattle.fix_machine.specs.declared.state.Requested.{Requested}
use Rattle.fix_machine.specs.declared.state.Role.{Role}
use Rattle.fix_machine.specs.declared.state.Role.TheVariants.{Acceptor, Initiator}
use Rattle.fix_machine.specs.declared.state.MachineState.{MachineState}
use Rattle.fix_machine.specs.declared.state.Options.{Options}
use Rattle.fix_machine.specs.State.{sent, counted, expecting, up, emptied, heard, read_clock}
use Rattle.fix_machine.specs.Event.{Inbound, VerdictSeen, App, Admin, Bad, Serve, Stash, Expect, Reset, Confirm}
use Rattle.fix_machine.specs.Event.{EventSeen, Begin, First, Frame, Moved, Clock, Leave, Ended, Wrote}
use Rattle.fix_machine.specs.Answer.{Answered, answer, names, silent, refuse, refuse_with, reject, ask_step, asked, end_of, number_or_0, type_in, is_of_session}
use Rattle.fix_machine.specs.AwaitLogon as await
use Rattle.fix_machine.specs.Checks as found
use Rattle.fix_machine.specs.Checks.{FindingSeen, checked}
use Rattle.fix_machine.specs.Clock as clocks
use Rattle.fix_machine.specs.LoggedOn as on
use Rattle.fix_machine.specs.Numbers.{IsNoMessage}
use Rattle.fix_machine.specs.Decide.{answer_to, message, moved_in, leave}
use Rattle.fix_steps.specs.Told.{IsVerdict, IsTold, IsBounded, IsPossibleAnswer}
use Rattle.fix_steps.proofs.ClearLemmas.{clear_value, new_number, read_number, Tells, tells}

-- ---- choices

module _ (frame : Option (List ℕ)) where
  abbrev Fine : Answered → Type 0
  Fine a = IsPossibleAnswer frame a

  either : (b : Bool) (p q : Answered) → (b ≡ true → Fine p) → (b ≡ false → Fine q) → Fine (if b then p else q)
  either true p q h k = h refl
  either false p q h k = k refl

-- a number more
more : (n : ℕ) → (1 ≤ n) × (n ≤ 999999999) → (1 ≤ n + 1) × (n + 1 ≤ 1000000000)
more n h = (omega arith, omega (arith, h.1))

-- what is asked for is a range
ask_end : (none : Bool) (chunk e k : ℕ) → (chunk == 0) ≡ none → 1 ≤ e → e ≤ k → k ≤ 999999999 → ((if none then 0 else min (e + chunk - 1) k) ≡ 0) ⊎ ((e ≤ (if none then 0 else min (e + chunk - 1) k)) × ((if none then 0 else min (e + chunk - 1) k) ≤ 999999999))
ask_end true chunk e k is some up most = inl refl
ask_end false chunk e k is some up most = let other = eqb-false chunk 0 is in inr (omega (arith, up, positive chunk other), omega (arith, most))
  where
    positive : (n : ℕ) → (n ≡ 0 → ⊥) → 1 ≤ n
    positive n h = omega (arith, h)

ask_range : (chunk e k : ℕ) → 1 ≤ e → e ≤ k → k ≤ 999999999 → IsRequestRange e (end_of chunk e k)
ask_range chunk e k some up most = record { first = some; last = omega (arith, up, most); end = ask_end (chunk == 0) chunk e k refl some up most }

-- ---- states

-- another number is expected
moves_to : (s : MachineState) (n : ℕ) → IsBounded s → (1 ≤ n) × (n ≤ 1000000000) → IsBounded (expecting n s)
moves_to s n b h = record { first = h.0; last = h.1; gap = b.gap }

-- what has the same numbers is bounded too
stays : (s t : MachineState) → t.expected ≡ s.expected → t.resend_requested ≡ s.resend_requested → IsBounded s → IsBounded t
stays s t e g b = record {
  first = subst (λ (n : ℕ). 1 ≤ n) (sym e) b.first;
  last = subst (λ (n : ℕ). n ≤ 1000000000) (sym e) b.last;
  gap = subst (λ (o : Option Requested). IfSome o (λ gap. gap.above ≤ 999999999)) (sym g) b.gap;
}

asks : (o : Options) (k : ℕ) (s : MachineState) → IsBounded s → k ≤ 999999999 → IsBounded (asked o k s)
asks o k s b most = record { first = b.first; last = b.last; gap = most }

-- ---- answers that need no message

module _ (frame : Option (List ℕ)) where
  silent_fine : (s : MachineState) → IsBounded s → Fine frame (silent s)
  silent_fine s b = record { steps = (tt, (tt, (tt, (tt, tt)))); order = record { resets = refl; closes = refl }; next = b }

  close_fine : (k : ℕ) (cause : Refusal) (s : MachineState) → IsBounded s → Fine frame (refuse k cause s)
  close_fine k cause s b = record { steps = (tt, (tt, (tt, (tt, tt)))); order = record { resets = refl; closes = refl }; next = record { first = b.first; last = b.last; gap = b.gap } }

  refuse_fine : (t : LogoutText) (k : ℕ) (cause : Refusal) (s : MachineState) → IsBounded s → Fine frame (refuse_with t k cause s)
  refuse_fine t k cause s b = record { steps = (tt, (tt, (tt, (tt, tt)))); order = record { resets = refl; closes = refl }; next = record { first = b.first; last = b.last; gap = b.gap } }

  ask_fine : (o : Options) (k : ℕ) (s : MachineState) → IsBounded s → s.expected ≤ k → k ≤ 999999999 → Fine frame (on.then_ask o k [] s)
  ask_fine o k s b up most =
      either frame (is_none s.resend_requested) (answer (ask_step o k s ∷ []) (asked o k s)) (answer [] s)
      (λ e. record { steps = (ask_range o.chunk s.expected k b.first up most, (tt, (tt, (tt, tt)))); order = record { resets = refl; closes = refl }; next = asks o k s b most })
      (λ e. silent_fine s b)

  stash_fine : (o : Options) (k : ℕ) (s : MachineState) → IsBounded s → s.expected ≤ k → k ≤ 999999999 → Fine frame (on.then_ask o k (Stash ∷ []) s)
  stash_fine o k s b up most =
      either frame (is_none s.resend_requested) (answer (Stash ∷ ask_step o k s ∷ []) (asked o k s)) (answer (Stash ∷ []) s)
      (λ e. record { steps = (tt, (ask_range o.chunk s.expected k b.first up most, (tt, (tt, tt)))); order = record { resets = refl; closes = refl }; next = asks o k s b most })
      (λ e. record { steps = (tt, (tt, (tt, (tt, tt)))); order = record { resets = refl; closes = refl }; next = b })

  serve_fine : (o : Options) (k from to : ℕ) (s : MachineState) → IsRequestRange from to → IsBounded s → s.expected ≤ k → k ≤ 999999999 → Fine frame (on.then_ask o k (Serve from to ∷ []) s)
  serve_fine o k from to s range b up most =
      either frame (is_none s.resend_requested) (answer (Serve from to ∷ ask_step o k s ∷ []) (asked o k s)) (answer (Serve from to ∷ []) s)
      (λ e. record { steps = (range, (ask_range o.chunk s.expected k b.first up most, (tt, (tt, tt)))); order = record { resets = refl; closes = refl }; next = asks o k s b most })
      (λ e. record { steps = (range, (tt, (tt, (tt, tt)))); order = record { resets = refl; closes = refl }; next = b })

  out_fine : (p : Phase) (k : ℕ) (s : MachineState) → IsBounded s → Fine frame (answer (on.logout_steps p k) (on.logged_out p s))
  out_fine Down k s b = record { steps = (tt, (tt, (tt, (tt, tt)))); order = record { resets = refl; closes = refl }; next = record { first = b.first; last = b.last; gap = b.gap } }
  out_fine AwaitLogon k s b = record { steps = (tt, (tt, (tt, (tt, tt)))); order = record { resets = refl; closes = refl }; next = record { first = b.first; last = b.last; gap = b.gap } }
  out_fine Up k s b = record { steps = (tt, (tt, (tt, (tt, tt)))); order = record { resets = refl; closes = refl }; next = record { first = b.first; last = b.last; gap = b.gap } }
  out_fine LogoutSent k s b = record { steps = (tt, (tt, (tt, (tt, tt)))); order = record { resets = refl; closes = refl }; next = record { first = b.first; last = b.last; gap = b.gap } }

-- ---- a message

module _ (text_ : List ℕ) (fs : List Field) (has : HasFields text_ fs) (i : Inbound) (told : IsTold fs i) where
  abbrev at : Option (List ℕ)
  at = Some text_

  type_clear : HasNoSoh (type_in i.header)
  type_clear =
      subst (λ (o : Option (List ℕ)). HasNoSoh (elim o [ None ↦ [] | Some type ↦ type ])) (sym (ap (λ (h : Header). h.type) told.header ∙ told.typed))
      (clear_value 35 refl fs has.parts.body has.are told.type told.typed)

  -- its number lies within its bounds
  number_is : (n : ℕ) → i.header.number ≡ Some n → (1 ≤ n) × (n ≤ 999999999)
  number_is n h = read_number fs n (sym (ap (λ (g : Header). g.number) told.header) ∙ h)

  module _ (n : ℕ) (number : i.header.number ≡ Some n) where
    few : n < 4294967296
    few = let most = (number_is n number).1 in omega (arith, most)

    rejected_fine : (f : Fault) (s : MachineState) → IsBounded s → Fine at (on.rejected f n i s)
    rejected_fine f s b = record {
      steps = ((type_clear, few), (more n (number_is n number), (tt, (tt, tt))));
      order = record { resets = refl; closes = refl };
      next = record { first = (more n (number_is n number)).0; last = (more n (number_is n number)).1; gap = b.gap };
    }

    closed_fine : (f : Fault) (t : LogoutText) (cause : Refusal) (s : MachineState) → IsBounded s → Fine at (on.rejected_and_closed f t cause n i s)
    closed_fine f t cause s b = record {
      steps = ((type_clear, few), (more n (number_is n number), (tt, (tt, tt))));
      order = record { resets = refl; closes = refl };
      next = record { first = (more n (number_is n number)).0; last = (more n (number_is n number)).1; gap = b.gap };
    }

    counted_fine : (s : MachineState) → IsBounded s → Fine at (on.count n s)
    counted_fine s b = record { steps = (more n (number_is n number), (tt, (tt, (tt, tt)))); order = record { resets = refl; closes = refl }; next = moves_to s (n + 1) b (more n (number_is n number)) }

    filled_fine : (next : ℕ) → (1 ≤ next) × (next ≤ 1000000000) → (s : MachineState) → IsBounded s → Fine at (on.filled next n i s)
    filled_fine next fits s b =
        either at (nat_lt n next) (answer (Expect next ∷ []) (expecting next s)) (on.rejected (fault_of 5 36) n i s) (λ e. record { steps = (fits, (tt, (tt, (tt, tt)))); order = record { resets = refl; closes = refl }; next = moves_to s next b fits }) (λ e. rejected_fine (fault_of 5 36) s b)

    logout_fine : (p : Phase) (s : MachineState) → IsBounded s → Fine at (answer (Expect (n + 1) ∷ on.logout_steps p n) (on.logged_out p (counted n s)))
    logout_fine Down s b = record { steps = (more n (number_is n number), (tt, (tt, (tt, tt)))); order = record { resets = refl; closes = refl }; next = record { first = (more n (number_is n number)).0; last = (more n (number_is n number)).1; gap = b.gap } }
    logout_fine AwaitLogon s b = record { steps = (more n (number_is n number), (tt, (tt, (tt, tt)))); order = record { resets = refl; closes = refl }; next = record { first = (more n (number_is n number)).0; last = (more n (number_is n number)).1; gap = b.gap } }
    logout_fine Up s b = record { steps = (more n (number_is n number), (tt, (tt, (tt, tt)))); order = record { resets = refl; closes = refl }; next = record { first = (more n (number_is n number)).0; last = (more n (number_is n number)).1; gap = b.gap } }
    logout_fine LogoutSent s b = record { steps = (more n (number_is n number), (tt, (tt, (tt, tt)))); order = record { resets = refl; closes = refl }; next = record { first = (more n (number_is n number)).0; last = (more n (number_is n number)).1; gap = b.gap } }

    again_fine : (reset : Bool) (s : MachineState) → IsBounded s → Fine at (on.logged_on_again reset n s)
    again_fine true s b = refuse_fine at text.ResetFlag n refusal.ResetAsked s b
    again_fine false s b = counted_fine s b

    session_fine : (a : AdminSeen) → Tells fs a → (s : MachineState) → IsBounded s → Fine at (on.session_message a n i s)
    session_fine (admin.Heartbeat id) t s b = counted_fine s b
    session_fine (admin.TestRequest id) t s b = record {
      steps = (clear_value 112 refl fs has.parts.body has.are id t, (more n (number_is n number), (tt, (tt, tt))));
      order = record { resets = refl; closes = refl };
      next = record { first = (more n (number_is n number)).0; last = (more n (number_is n number)).1; gap = b.gap };
    }
    session_fine (admin.ResendRequest from to) t s b = record { steps = (more n (number_is n number), (t, (tt, (tt, tt)))); order = record { resets = refl; closes = refl }; next = moves_to s (n + 1) b (more n (number_is n number)) }
    session_fine (admin.Reject about) t s b = counted_fine s b
    session_fine (admin.SequenceReset next gap) t s b = filled_fine next (new_number (value_of 36 fs) next t) s b
    session_fine admin.Logout t s b = logout_fine s.phase s b
    session_fine (admin.Logon heart reset version) t s b = again_fine i.reset s b

    type_fine : (v : VerdictSeen) → IsVerdict told.type fs v → (s : MachineState) → IsBounded s → Fine at (on.by_type v n i s)
    type_fine App of s b = record { steps = (tt, (more n (number_is n number), (tt, (tt, tt)))); order = record { resets = refl; closes = refl }; next = moves_to s (n + 1) b (more n (number_is n number)) }
    type_fine (Admin a) of s b = session_fine a (tells told.type fs a of.1) s b
    type_fine (Bad fault) of s b = rejected_fine fault s b

    order_fine : (f : FindingSeen) (s : MachineState) → IsBounded s → Fine at (on.in_order_by f n i s)
    order_fine found.Fine s b = type_fine i.verdict told.verdict s b
    order_fine (found.Reject fault) s b = rejected_fine fault s b
    order_fine (found.RejectAndClose fault t cause) s b = closed_fine fault t cause s b

    -- a SequenceReset without GapFillFlag (123)
    low_none : (k : ℕ) → 1 ≤ k → k ≤ 0 → ⊥
    low_none k some none = omega (arith, some, none)

    new_fits : (v : VerdictSeen) → IsVerdict told.type fs v → (s : MachineState) → IsBounded s → s.expected ≤ on.new_seq_no_in v → (1 ≤ on.new_seq_no_in v) × (on.new_seq_no_in v ≤ 1000000000)
    new_fits App of s b up = absurd (low_none s.expected b.first up)
    new_fits (Admin (admin.Heartbeat id)) of s b up = absurd (low_none s.expected b.first up)
    new_fits (Admin (admin.TestRequest id)) of s b up = absurd (low_none s.expected b.first up)
    new_fits (Admin (admin.ResendRequest from to)) of s b up = absurd (low_none s.expected b.first up)
    new_fits (Admin (admin.Reject about)) of s b up = absurd (low_none s.expected b.first up)
    new_fits (Admin (admin.SequenceReset next gap)) of s b up = new_number (value_of 36 fs) next (tells told.type fs (admin.SequenceReset next gap) of.1)
    new_fits (Admin admin.Logout) of s b up = absurd (low_none s.expected b.first up)
    new_fits (Admin (admin.Logon heart reset version)) of s b up = absurd (low_none s.expected b.first up)
    new_fits (Bad fault) of s b up = absurd (low_none s.expected b.first up)

    reset_fine : (f : FindingSeen) (s : MachineState) → IsBounded s → Fine at (on.reset_by f n i s)
    reset_fine found.Fine s b =
        either at (nat_le s.expected (on.new_seq_no_in i.verdict)) (answer (Expect (on.new_seq_no_in i.verdict) ∷ []) (expecting (on.new_seq_no_in i.verdict) s)) (answer (reject n (type_in i.header) (fault_of 5 36) ∷ []) (sent s))
        (λ e. let fits = new_fits i.verdict told.verdict s b (leb-true s.expected (on.new_seq_no_in i.verdict) e) in record { steps = (fits, (tt, (tt, (tt, tt)))); order = record { resets = refl; closes = refl }; next = moves_to s (on.new_seq_no_in i.verdict) b fits })
        (λ e. record { steps = ((type_clear, few), (tt, (tt, (tt, tt)))); order = record { resets = refl; closes = refl }; next = record { first = b.first; last = b.last; gap = b.gap } })
    reset_fine (found.Reject fault) s b = record { steps = ((type_clear, few), (tt, (tt, (tt, tt)))); order = record { resets = refl; closes = refl }; next = record { first = b.first; last = b.last; gap = b.gap } }
    reset_fine (found.RejectAndClose fault t cause) s b = record { steps = ((type_clear, few), (tt, (tt, (tt, tt)))); order = record { resets = refl; closes = refl }; next = record { first = b.first; last = b.last; gap = b.gap } }

    -- above the expected number
    module _ (o : Options) (s : MachineState) (b : IsBounded s) (high : s.expected ≤ n) where
      asks_fine : Fine at (on.then_ask o n [] s)
      asks_fine = ask_fine at o n s b high (number_is n number).1

      served_fine : (a : AdminSeen) → Tells fs a → Fine at (on.served_early a o n s)
      served_fine (admin.Heartbeat id) t = asks_fine
      served_fine (admin.TestRequest id) t = asks_fine
      served_fine (admin.ResendRequest from to) t = serve_fine at o n from to s t b high (number_is n number).1
      served_fine (admin.Reject about) t = asks_fine
      served_fine (admin.SequenceReset next gap) t = asks_fine
      served_fine admin.Logout t = out_fine at s.phase n s b
      served_fine (admin.Logon heart reset version) t = asks_fine

      early_fine : (v : VerdictSeen) → IsVerdict told.type fs v → Fine at (on.early_of v o n s)
      early_fine App of = asks_fine
      early_fine (Admin a) of = served_fine a (tells told.type fs a of.1)
      early_fine (Bad fault) of = asks_fine

      early_by_fine : (f : FindingSeen) → Fine at (on.early_by f o n i s)
      early_by_fine found.Fine = early_fine i.verdict told.verdict
      early_by_fine (found.Reject fault) = asks_fine
      early_by_fine (found.RejectAndClose fault t cause) = asks_fine

      high_fine : Fine at (on.too_high o n i s)
      high_fine =
          either at (on.is_early i) (on.early_by (checked o s i) o n i s) (if i.full then on.then_ask o n [] s else on.then_ask o n (Stash ∷ []) s) (λ e. early_by_fine (checked o s i))
          (λ e. either at i.full (on.then_ask o n [] s) (on.then_ask o n (Stash ∷ []) s) (λ f. asks_fine) (λ f. stash_fine at o n s b high (number_is n number).1))

    low_fine : (s : MachineState) → IsBounded s → Fine at (on.too_low n i s)
    low_fine s b =
        either at (names i.header.poss_dup (codes "Y")) (silent s) (refuse_with (text.TooLow s.expected n) n refusal.TooLow s) (λ e. silent_fine at s b) (λ e. refuse_fine at (text.TooLow s.expected n) n refusal.TooLow s b)

    numbered_fine : (o : Options) (s : MachineState) → IsBounded s → Fine at (on.numbered o n i s)
    numbered_fine o s b =
        either at (on.is_reset i) (on.reset_by (checked o s i) n i s) (if nat_lt s.expected n then on.too_high o n i s else (if nat_lt n s.expected then on.too_low n i s else on.in_order_by (checked o s i) n i s)) (λ e. reset_fine (checked o s i) s b)
        (λ plain. either at (nat_lt s.expected n) (on.too_high o n i s) (if nat_lt n s.expected then on.too_low n i s else on.in_order_by (checked o s i) n i s) (λ e. high_fine o s b (let up = ltb-true s.expected n e in omega (arith, up)))
        (λ high. either at (nat_lt n s.expected) (on.too_low n i s) (on.in_order_by (checked o s i) n i s) (λ e. low_fine s b) (λ low. order_fine (checked o s i) s b)))

    -- ---- the first message

    module _ (o : Options) (plain : o.version ≡ None) where
      -- the number is counted, or the messages before it are asked for
      plain_by : (t : Bool) (heart : ℕ) (reset : Bool) (s : MachineState) → IsBounded s → nat_lt s.expected n ≡ t → Fine at (answer (await.logon o heart reset ∷ (if t then ask_step o n s else Expect (n + 1)) ∷ []) (if t then asked o n s else counted n s))
      plain_by true heart reset s b high = let up = ltb-true s.expected n high in record { steps = (plain, (ask_range o.chunk s.expected n b.first (omega (arith, up)) (number_is n number).1, (tt, (tt, tt)))); order = record { resets = refl; closes = refl }; next = asks o n s b (number_is n number).1 }
      plain_by false heart reset s b high = record { steps = (plain, (more n (number_is n number), (tt, (tt, tt)))); order = record { resets = refl; closes = refl }; next = moves_to s (n + 1) b (more n (number_is n number)) }

      own_by : (t : Bool) (heart : ℕ) (s : MachineState) → IsBounded s → nat_lt s.expected n ≡ t → Fine at (answer (Reset ∷ await.logon o heart false ∷ (if t then ask_step o n s else Expect (n + 1)) ∷ []) (if t then asked o n s else counted n s))
      own_by true heart s b high = let up = ltb-true s.expected n high in record { steps = (tt, (plain, (ask_range o.chunk s.expected n b.first (omega (arith, up)) (number_is n number).1, (tt, tt)))); order = record { resets = refl; closes = refl }; next = asks o n s b (number_is n number).1 }
      own_by false heart s b high = record { steps = (tt, (plain, (more n (number_is n number), (tt, tt)))); order = record { resets = refl; closes = refl }; next = moves_to s (n + 1) b (more n (number_is n number)) }

      up_by : (t : Bool) (s : MachineState) → IsBounded s → nat_lt s.expected n ≡ t → Fine at (answer ((if t then ask_step o n s else Expect (n + 1)) ∷ []) (if t then asked o n s else counted n s))
      up_by true s b high = let up = ltb-true s.expected n high in record { steps = (ask_range o.chunk s.expected n b.first (omega (arith, up)) (number_is n number).1, (tt, (tt, (tt, tt)))); order = record { resets = refl; closes = refl }; next = asks o n s b (number_is n number).1 }
      up_by false s b high = record { steps = (more n (number_is n number), (tt, (tt, (tt, tt)))); order = record { resets = refl; closes = refl }; next = moves_to s (n + 1) b (more n (number_is n number)) }

      -- after a reset number 1 is expected
      anew : (heart : ℕ) (s : MachineState) → IsBounded s → IsBounded (await.answered heart (emptied s))
      anew heart s b = record { first = omega arith; last = omega arith; gap = b.gap }

      acceptor_fine : (reset each : Bool) (heart : ℕ) (s : MachineState) → IsBounded s → Fine at (if reset then await.reset_answer o n heart s else (if each then await.own_reset_answer o n heart s else await.plain_answer o n heart s))
      acceptor_fine true each heart s b = record { steps = (tt, (plain, (more n (number_is n number), (tt, tt)))); order = record { resets = refl; closes = refl }; next = record { first = (more n (number_is n number)).0; last = (more n (number_is n number)).1; gap = b.gap } }
      acceptor_fine false true heart s b = own_by (nat_lt 1 n) heart (await.answered heart (emptied s)) (anew heart s b) refl
      acceptor_fine false false heart s b = plain_by (nat_lt s.expected n) heart false (await.answered heart s) (record { first = b.first; last = b.last; gap = b.gap }) refl

      initiator_fine : (asks_ reset : Bool) (s : MachineState) → IsBounded s → Fine at (if asks_ then (if reset then answer (Confirm ∷ Expect (n + 1) ∷ []) (counted n (await.confirmed s)) else refuse n refusal.ResetUnanswered s) else (if reset then refuse n refusal.ResetAsked s else answer (await.count_or_ask o n (up s) ∷ []) (await.counted_or_asked o n (up s))))
      initiator_fine true true s b = record { steps = (tt, (more n (number_is n number), (tt, (tt, tt)))); order = record { resets = refl; closes = refl }; next = record { first = (more n (number_is n number)).0; last = (more n (number_is n number)).1; gap = b.gap } }
      initiator_fine true false s b = close_fine at n refusal.ResetUnanswered s b
      initiator_fine false true s b = close_fine at n refusal.ResetAsked s b
      initiator_fine false false s b = up_by (nat_lt s.expected n) (up s) (record { first = b.first; last = b.last; gap = b.gap }) refl

      taken_fine : (side : Role) (reset : Bool) (heart : ℕ) (s : MachineState) → IsBounded s → Fine at (await.taken side o reset n heart s)
      taken_fine Acceptor reset heart s b = acceptor_fine reset o.reset_on_logon heart s b
      taken_fine Initiator reset heart s b = initiator_fine s.reset_asked reset s b

      logon_fine : (heart : Option ℕ) (reset : Bool) (s : MachineState) → IsBounded s → Fine at (await.logon_answer heart o reset n s)
      logon_fine None reset s b = close_fine at n refusal.BadLogon s b
      logon_fine (Some heart) reset s b = either at (reset && not (n == 1)) (refuse n refusal.BadLogon s) (await.taken s.role o reset n heart s) (λ e. close_fine at n refusal.BadLogon s b) (λ e. taken_fine s.role reset heart s b)

      first_fine : (s : MachineState) → IsBounded s → Fine at (await.numbered_answer o n s i)
      first_fine s b =
          either at (await.is_too_low o n s i.reset) (refuse_with (text.TooLow s.expected n) n refusal.TooLow s) (if not (await.is_addressed o.identity i.header) then refuse n refusal.CompId s else (if not (await.is_near o.latency s.reading i.sent) then refuse n refusal.SendingTime s else await.logon_answer (await.heart_in o i.verdict) o i.reset n s)) (λ e. refuse_fine at (text.TooLow s.expected n) n refusal.TooLow s b)
          (λ low. either at (not (await.is_addressed o.identity i.header)) (refuse n refusal.CompId s) (if not (await.is_near o.latency s.reading i.sent) then refuse n refusal.SendingTime s else await.logon_answer (await.heart_in o i.verdict) o i.reset n s) (λ e. close_fine at n refusal.CompId s b)
          (λ e. either at (not (await.is_near o.latency s.reading i.sent)) (refuse n refusal.SendingTime s) (await.logon_answer (await.heart_in o i.verdict) o i.reset n s) (λ f. close_fine at n refusal.SendingTime s b) (λ f. logon_fine (await.heart_in o i.verdict) i.reset s b)))

  -- ---- the tables

  later_by_number : (o : Options) (number : Option ℕ) (s : MachineState) → i.header.number ≡ number → IsBounded s → Fine at (on.by_number o number i s)
  later_by_number o None s is b = refuse_fine at text.NoNumber 0 refusal.NoNumber s b
  later_by_number o (Some n) s is b = numbered_fine n is o s b

  later_fine : (o : Options) (s : MachineState) → IsBounded s → Fine at (on.logged_on o s i)
  later_fine o s b =
      either at (not (is_of_session o.identity i.header)) (refuse_with text.BeginString (number_or_0 i.header.number) refusal.BeginString s) (on.by_number o i.header.number i s)
      (λ e. refuse_fine at text.BeginString (number_or_0 i.header.number) refusal.BeginString s b) (λ e. later_by_number o i.header.number s refl b)

  first_by_number : (o : Options) → o.version ≡ None → (number : Option ℕ) (s : MachineState) → i.header.number ≡ number → IsBounded s → Fine at (await.by_number o number s i)
  first_by_number o plain None s is b = close_fine at 0 refusal.NoNumber s b
  first_by_number o plain (Some n) s is b = first_fine n is o plain s b

  await_fine : (o : Options) → o.version ≡ None → (s : MachineState) → IsBounded s → Fine at (await.await_logon o s i)
  await_fine o plain s b =
      either at (not (names i.header.type (codes "A"))) (refuse (number_or_0 i.header.number) refusal.NotLogon s) (if not (is_of_session o.identity i.header) then refuse (number_or_0 i.header.number) refusal.BeginString s else await.by_number o i.header.number s i) (λ e. close_fine at (number_or_0 i.header.number) refusal.NotLogon s b)
      (λ e. either at (not (is_of_session o.identity i.header)) (refuse (number_or_0 i.header.number) refusal.BeginString s) (await.by_number o i.header.number s i) (λ f. close_fine at (number_or_0 i.header.number) refusal.BeginString s b) (λ f. first_by_number o plain i.header.number s refl b))

  phase_fine : (p : Phase) (o : Options) → o.version ≡ None → (s : MachineState) → IsBounded s → Fine at (message p o s i)
  phase_fine Down o plain s b = silent_fine at s b
  phase_fine AwaitLogon o plain s b = await_fine o plain s b
  phase_fine Up o plain s b = later_fine o s b
  phase_fine LogoutSent o plain s b = later_fine o s b

  pub message_fine : (o : Options) (s : MachineState) → o.version ≡ None → IsBounded s → IsPossibleAnswer (Some text_) (answer_to o s (Frame i))
  message_fine o s plain b = phase_fine s.phase o plain (heard s) (record { first = b.first; last = b.last; gap = b.gap })

-- ---- other events

abbrev nowhere : Option (List ℕ)
nowhere = None

window_fine : (p : Phase) (now : ℕ) (s : MachineState) → IsBounded s → Fine nowhere (clocks.out_of_window p now s)
window_fine Down now s b = silent_fine nowhere s b
window_fine AwaitLogon now s b = record { steps = (tt, (tt, (tt, (tt, tt)))); order = record { resets = refl; closes = refl }; next = record { first = b.first; last = b.last; gap = b.gap } }
window_fine Up now s b = record { steps = (tt, (tt, (tt, (tt, tt)))); order = record { resets = refl; closes = refl }; next = record { first = b.first; last = b.last; gap = b.gap } }
window_fine LogoutSent now s b = record { steps = (tt, (tt, (tt, (tt, tt)))); order = record { resets = refl; closes = refl }; next = record { first = b.first; last = b.last; gap = b.gap } }

due_fine : (d : Option Due) (s : MachineState) → IsBounded s → Fine nowhere (clocks.due_answer d s)
due_fine None s b = silent_fine nowhere s b
due_fine (Some due.LogonLate) s b = record { steps = (tt, (tt, (tt, (tt, tt)))); order = record { resets = refl; closes = refl }; next = record { first = b.first; last = b.last; gap = b.gap } }
due_fine (Some due.LogoutLate) s b = record { steps = (tt, (tt, (tt, (tt, tt)))); order = record { resets = refl; closes = refl }; next = record { first = b.first; last = b.last; gap = b.gap } }
due_fine (Some (due.Silent since)) s b = record { steps = (tt, (tt, (tt, (tt, tt)))); order = record { resets = refl; closes = refl }; next = record { first = b.first; last = b.last; gap = b.gap } }
due_fine (Some due.TestRequest) s b = record { steps = (tt, (tt, (tt, (tt, tt)))); order = record { resets = refl; closes = refl }; next = record { first = b.first; last = b.last; gap = b.gap } }
due_fine (Some due.Heartbeat) s b = record { steps = (tt, (tt, (tt, (tt, tt)))); order = record { resets = refl; closes = refl }; next = record { first = b.first; last = b.last; gap = b.gap } }

clock_fine : (o : Options) (s : MachineState) (inside : Bool) → IsBounded s → Fine nowhere (clocks.clock o s inside)
clock_fine o s false b = window_fine s.phase s.reading s b
clock_fine o s true b = due_fine (clocks.due_at o s s.reading) s b

moved_fine : (gap : Option Requested) (o : Options) (s : MachineState) → s.resend_requested ≡ gap → IsBounded s → Fine nowhere (moved_in gap o s)
moved_fine None o s is b = silent_fine nowhere s b
moved_fine (Some gap) o s is b =
    let most : gap.above ≤ 999999999 = subst (λ (x : Option Requested). IfSome x (λ g. g.above ≤ 999999999)) is b.gap in
    either nowhere (nat_lt gap.above s.expected) (silent (record s { resend_requested = None })) (if nat_lt 0 o.chunk && nat_lt gap.end s.expected then answer (ask_step o gap.above s ∷ []) (asked o gap.above s) else silent s) (λ e. silent_fine nowhere (record s { resend_requested = None }) (record { first = b.first; last = b.last; gap = tt }))
    (λ high. either nowhere (nat_lt 0 o.chunk && nat_lt gap.end s.expected) (answer (ask_step o gap.above s ∷ []) (asked o gap.above s)) (silent s)
    (λ e. record { steps = (ask_range o.chunk s.expected gap.above b.first (ltb-false gap.above s.expected high) most, (tt, (tt, (tt, tt)))); order = record { resets = refl; closes = refl }; next = asks o gap.above s b most }) (λ e. silent_fine nowhere s b))

left_fine : (p : Phase) (s : MachineState) → IsBounded s → Fine nowhere (leave p s)
left_fine Down s b = silent_fine nowhere s b
left_fine AwaitLogon s b = silent_fine nowhere s b
left_fine Up s b = record { steps = (tt, (tt, (tt, (tt, tt)))); order = record { resets = refl; closes = refl }; next = record { first = b.first; last = b.last; gap = b.gap } }
left_fine LogoutSent s b = silent_fine nowhere s b

pub other_fine : (o : Options) (s : MachineState) (e : EventSeen) → IsNoMessage e → o.version ≡ None → IsBounded s → IsPossibleAnswer None (answer_to o s e)
other_fine o s (Begin role now) is plain b = record { steps = (tt, (tt, (tt, (tt, tt)))); order = record { resets = refl; closes = refl }; next = record { first = b.first; last = b.last; gap = tt } }
other_fine o s First is plain b = record { steps = (plain, (tt, (tt, (tt, tt)))); order = record { resets = refl; closes = refl }; next = record { first = b.first; last = b.last; gap = b.gap } }
other_fine o s (Frame i) is plain b = absurd is
other_fine o s (Moved waiting) is plain b = moved_fine s.resend_requested o s refl b
other_fine o s (Clock now inside) is plain b = clock_fine o (read_clock now s) inside (record { first = b.first; last = b.last; gap = b.gap })
other_fine o s (Leave now) is plain b = left_fine s.phase (read_clock now s) (record { first = b.first; last = b.last; gap = b.gap })
other_fine o s Ended is plain b = record { steps = (tt, (tt, (tt, (tt, tt)))); order = record { resets = refl; closes = refl }; next = record { first = b.first; last = b.last; gap = b.gap } }
other_fine o s (Wrote now) is plain b = record { steps = (tt, (tt, (tt, (tt, tt)))); order = record { resets = refl; closes = refl }; next = record { first = b.first; last = b.last; gap = b.gap } }
