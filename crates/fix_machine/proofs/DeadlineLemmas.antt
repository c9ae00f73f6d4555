-- First readings: of one sum, and of two.
use Rattle.std.proofs.Common.{◌≡◌, ◌+◌, ◌*◌, ◌<◌, ◌≤◌, ◌||◌, ℕ, Bool, true, false, min, is_some, Option, Some, None, nat_le, nat_eq, unwrap_or, cond, refl, ◌∙◌, ap, inl, inr, arith}
use Rattle.std.proofs.lemmas.Bool.{cases_lt, leb-true}
use Rattle.std.proofs.lemmas.Bool.Decides.{nat_tests}
use Rattle.fix_base.specs.Payload.{LAST_TIME}
use Rattle.fix_machine.specs.declared.state.Phase.TheVariants.{Down, AwaitLogon, Up, LogoutSent}
use Rattle.fix_machine.specs.declared.clock.Due.{Due}
use Rattle.fix_machine.specs.declared.clock.Due.TheVariants as due
use Rattle.fix_machine.specs.State.{Options, MachineState}
use Rattle.fix_machine.specs.Clock.{has_gone, is_silent, due_if, listened, due_in, due_at}
use Rattle.fix_machine.specs.Deadline.{IsFirst, IsDeadline, first, never, has_passed, earlier, capped}

pub passed : (after since now : ℕ) → since + after ≤ now → has_passed after since now ≡ true
passed after since now h = grind (arith, nat_tests)

pub not_passed : (after since now : ℕ) → 1 ≤ after → now < since + after → has_passed after since now ≡ false
not_passed after since now some h = grind (arith, nat_tests)

pub passed_at_once : (after since now : ℕ) → after ≡ 0 → has_passed after since now ≡ true
passed_at_once after since now none = grind (arith, nat_tests)

-- a test that is true from a time on
capped_by : (s : MachineState) (p : ℕ → Bool) (at : ℕ) (b : Bool) → nat_le at LAST_TIME ≡ b → s.reading < at
    → ((u : ℕ) → at ≤ u → p u ≡ true) → ((u : ℕ) → s.reading < u → u < at → p u ≡ false) → IsFirst s p (cond b (Some at) None)
capped_by s p at true e above from before = first at (record { above = above; last = leb-true at LAST_TIME e }) (from at (omega arith)) (λ u unread below. before u unread.above below)
capped_by s p at false e above from before =
    let late : LAST_TIME < at = grind (arith, nat_tests) in
    never (λ u unread. before u unread.above (omega (arith, unread.last, late)))

pub first_capped : (s : MachineState) (p : ℕ → Bool) (at : ℕ) → s.reading < at → ((u : ℕ) → at ≤ u → p u ≡ true) → ((u : ℕ) → s.reading < u → u < at → p u ≡ false) → IsFirst s p (capped at)
first_capped s p at above from before = capped_by s p at (nat_le at LAST_TIME) refl above from before

-- the same test
pub first_same : (s : MachineState) (p q : ℕ → Bool) (o : Option ℕ) → ((u : ℕ) → q u ≡ p u) → IsFirst s p o → IsFirst s q o
first_same s p q o same (first t unread is least) = first t unread (same t ∙ is) (λ u a b. same u ∙ least u a b)
first_same s p q o same (never none) = never (λ u a. same u ∙ none u a)

-- of two tests the earlier
pub earlier_first : (s : MachineState) (p q : ℕ → Bool) (a b : Option ℕ) → IsFirst s p a → IsFirst s q b → IsFirst s (λ u. p u || q u) (earlier a b)
earlier_first s p q a b (never x) (never y) = never (λ u h. rw (x u h, y u h) refl)
earlier_first s p q a b (never x) (first u unread is least) = first u unread (rw (x u unread, is) refl) (λ v h below. rw (x v h, least v h below) refl)
earlier_first s p q a b (first t unread is least) (never y) = first t unread (rw is refl) (λ v h below. rw (y v h, least v h below) refl)
earlier_first s p q a b (first t unread is least) (first u ahead2 is2 least2) =
    elim (cases_lt t u) [
      | inl lt ↦ (let e : min t u ≡ t = omega arith in
          rw e (first t unread (rw is refl) (λ v h below. rw (least v h below, least2 v h (omega arith)) refl)))
      | inr le ↦ (let e : min t u ≡ u = omega arith in
          rw e (first u ahead2 (elim (cases_lt u t) [
            | inl lt ↦ rw (least u ahead2 lt, is2) refl
            | inr ge ↦ (let same : t ≡ u = omega arith in rw (← same, is) refl)
          ])
          (λ v h below. rw (least v h (omega arith), least2 v h below) refl)))
    ]

-- HeartBtInt and a fifth of it is a sum too
pub silent_is_passed : (heart since now : ℕ) → is_silent heart since now ≡ has_passed (1200000 * heart) since now
silent_is_passed heart since now = grind (arith, nat_tests)

due_some : (b : Bool) (d : Due) → is_some (due_if b d) ≡ b
due_some true d = refl
due_some false d = refl

some_or : (a b : Bool) (d e : Due) → is_some (cond a (Some d) (due_if b e)) ≡ (a || b)
some_or true b d e = refl
some_or false b d e = due_some b e

pub when_down : (o : Options) (s : MachineState) → s.phase ≡ Down → IsDeadline o s None
when_down o s e = never (λ u unread. nothing u)
  where
    nothing : (u : ℕ) → is_some (due_at o s u) ≡ false
    nothing u = ap (λ p. is_some (due_in p o s u)) e

pub when_waiting : (o : Options) (s : MachineState) (t : Option ℕ) → s.phase ≡ AwaitLogon → IsFirst s (λ u. has_passed (1000000 * o.logon_timeout) s.begun u) t → IsDeadline o s t
when_waiting o s t e h = first_same s _ _ t (λ u. ap (λ p. is_some (due_in p o s u)) e ∙ due_some _ due.LogonLate) h

pub when_leaving : (o : Options) (s : MachineState) (t : Option ℕ) → s.phase ≡ LogoutSent → IsFirst s (λ u. has_passed (1000000 * o.logout_timeout) s.left_at u) t → IsDeadline o s t
when_leaving o s t e h = first_same s _ _ t (λ u. ap (λ p. is_some (due_in p o s u)) e ∙ due_some _ due.LogoutLate) h

quiet_up : (h : ℕ) (d : Option Due) → h ≡ 0 → is_some (cond (nat_eq h 0) None d) ≡ false
quiet_up h d e = grind (arith, nat_tests)

pub when_quiet : (o : Options) (s : MachineState) → s.phase ≡ Up → s.heart ≡ 0 → IsDeadline o s None
when_quiet o s e z = never (λ u unread. ap (λ p. is_some (due_in p o s u)) e ∙ quiet_up s.heart (listened s.test_request_sent_at s u) z)

up_some : (h u since sent : ℕ) (d : Due) → is_some (cond (is_silent h since u) (Some d) (due_if (has_gone h sent u) due.Heartbeat)) ≡ (has_passed (1200000 * h) since u || has_passed (1000000 * h) sent u)
up_some h u since sent d = rw (← silent_is_passed h since u) (some_or _ _ d due.Heartbeat)

up_by : (probe : Option ℕ) (s : MachineState) (u : ℕ) → is_some (listened probe s u) ≡ (has_passed (1200000 * s.heart) (unwrap_or probe s.read_at) u || has_passed (1000000 * s.heart) s.sent_at u)
up_by None s u = up_some s.heart u s.read_at s.sent_at due.TestRequest
up_by (Some p) s u = up_some s.heart u p s.sent_at (due.Silent p)

loud_up : (h : ℕ) (d : Option Due) → 0 < h → cond (nat_eq h 0) None d ≡ d
loud_up h d some = grind (arith, nat_tests)

pub when_up : (o : Options) (s : MachineState) (a b : Option ℕ) → s.phase ≡ Up → 0 < s.heart → IsFirst s (λ u. has_passed (1200000 * s.heart) (unwrap_or s.test_request_sent_at s.read_at) u) a
    → IsFirst s (λ u. has_passed (1000000 * s.heart) s.sent_at u) b → IsDeadline o s (earlier a b)
when_up o s a b e some x y =
    first_same s _ _ (earlier a b) (λ u. ap (λ p. is_some (due_in p o s u)) e ∙ ap (λ d. is_some d) (loud_up s.heart (listened s.test_request_sent_at s u) some) ∙ up_by s.test_request_sent_at s u) (earlier_first s _ _ a b x y)
