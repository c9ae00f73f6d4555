-- The frames that wait are frames, whatever comes to them or goes.
use Rattle.std.proofs.Common.{◌≡◌, ℕ, ◌<◌, ◌≤◌, List, true, false, Option, Some, None, cond, if◌then◌else◌, refl, sym, ap, subst, ◌∙◌, arith}
use Rattle.std.proofs.lemmas.Bool.Decides.{nat_tests}
use Rattle.std.specs.Prelude.{nat_le, nat_lt, IsSome}
use Rattle.std.specs.Ordering.{nat_cmp, eq_by_cmp}
use Rattle.std.specs.Cmp.{nat_cmp_total}
use Rattle.std.specs.FinMap as map
use Rattle.std.specs.FinMap.{nat_cmp-IsAntisymmetric}
use Rattle.fix_base.proofs.ListLemmas.{some_same}
use Rattle.fix_resend.specs.Waiting.{Waiting, from_number}
use Rattle.fix_resend.proofs.WaitingLemmas.{tied}
use Rattle.fix_session.specs.State.{IsWaitingUnder, AreWaiting}
use Rattle.fix_session.specs.Waits.{waits_at, left_after}

-- what waits under a number is a frame of it, also where one more waits
pub waiting_put : (w : Waiting) (n : ℕ) (frame : List ℕ) → AreWaiting w → IsWaitingUnder n frame → AreWaiting (map.insert w n frame)
waiting_put w n frame all this q text found =
    elim (eq_by_cmp nat_cmp q n) as (λ t. eq_by_cmp nat_cmp q n ≡ t → cond t (Some frame) (map.get w q) ≡ Some text → IsWaitingUnder q text) [
      | true ↦ λ same is. subst (λ k. IsWaitingUnder k text) (sym (tied q n same)) (subst (λ f. IsWaitingUnder n f) (some_same frame text is) this)
      | false ↦ λ other is. all q text is
    ] refl (sym (map.get-insert nat_cmp_total w n frame q) ∙ found)

-- where those below a number are gone
pub waiting_from : (w : Waiting) (n : ℕ) → AreWaiting w → AreWaiting (from_number n w)
waiting_from w n all q text found =
    elim (nat_le n q) as (λ t. cond t (map.get w q) None ≡ Some text → IsWaitingUnder q text) [
      | true ↦ λ is. all q text is
      | false ↦ λ is. cc
    ] (sym (map.get-retain_keys w (λ x. nat_le n x) q (λ x e. ap (nat_le n) (sym (nat_cmp-IsAntisymmetric q x e)))) ∙ found)

-- and where one is
pub waiting_removed : (w : Waiting) (n : ℕ) → AreWaiting w → AreWaiting (map.remove w n)
waiting_removed w n all q text found =
    elim (eq_by_cmp nat_cmp q n) as (λ t. cond t None (map.get w q) ≡ Some text → IsWaitingUnder q text) [
      | true ↦ λ is. cc
      | false ↦ λ is. all q text is
    ] (sym (map.get-remove nat_cmp_total w n q) ∙ found)

-- ---- the expected number

pub none_waits : (n : ℕ) (w : Waiting) → 999999999 < n → waits_at n w ≡ None
none_waits n w high = let e : nat_lt 999999999 n ≡ true = grind (arith, nat_tests, high) in ap (λ t. if t then None else map.get w n) e

pub some_wait : (n : ℕ) (w : Waiting) → n ≤ 999999999 → waits_at n w ≡ map.get w n
some_wait n w low = let e : nat_lt 999999999 n ≡ false = grind (arith, nat_tests, low) in ap (λ t. if t then None else map.get w n) e

pub none_left : (n : ℕ) (w : Waiting) → 999999999 < n → left_after n w ≡ from_number n w
none_left n w high = let e : nat_lt 999999999 n ≡ true = grind (arith, nat_tests, high) in ap (λ t. if t then from_number n w else map.remove (from_number n w) n) e

pub some_left : (n : ℕ) (w : Waiting) → n ≤ 999999999 → left_after n w ≡ map.remove (from_number n w) n
some_left n w low = let e : nat_lt 999999999 n ≡ false = grind (arith, nat_tests, low) in ap (λ t. if t then from_number n w else map.remove (from_number n w) n) e

pub none_of : {A : Type 0} (o : Option A) → (IsSome o → ⊥) → o ≡ None
none_of None never = refl
none_of (Some x) never = absurd (never refl)

-- what waits at a number is a frame of it
pub due_is : (n : ℕ) (w : Waiting) (frame : List ℕ) → AreWaiting w → waits_at n w ≡ Some frame → IsWaitingUnder n frame
due_is n w frame all is = elim (nat_lt 999999999 n) as (λ t. (if t then None else map.get w n) ≡ Some frame → IsWaitingUnder n frame) [
  | true ↦ λ e. cc
  | false ↦ λ e. all n frame e
] is
