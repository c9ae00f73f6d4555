-- Windows that hold a time start on a few days near it, and a time has one window.
use Rattle.std.proofs.Common.{nat_eq, eq-eqb, ◌≡◌, ℕ, ℤ, pos, ◌+◌, ◌/◌, ◌≤◌, ◌+ℤ◌, ◌-ℤ◌, ◌≤ℤ◌, ◌<ℤ◌, neg_ℤ, false, Option, Some, None, refl, sym, ap, ◌∙◌, subst, arith, to_z, of_z, w64}
use Rattle.std.specs.Prelude.{IsTrue, ◌↔◌, MatchOption, IfSome, IsNone, is_some}
use Rattle.jiff_core.specs.Calendar.{IsBetween}
use Rattle.fix_base.specs.Payload.{LAST_TIME}
use Rattle.std.proofs.lemmas.Bool.{eqb-true}
use Rattle.std.proofs.lemmas.Int.{by_lt_z, to_z_pos}
use Rattle.jiff_core.proofs.SignedLemmas.{signed_arith}
use Rattle.fix_schedule.specs.declared.hours.Hours.{Hours}
use Rattle.fix_schedule.specs.Days.{EndsAfter, IsLastDay}
use Rattle.fix_schedule.specs.Window.{given, IsWindowOn, IsLatestWindow, IsWindow, AreInOne}
use Rattle.fix_schedule.specs.Zone.{IsInstant}
use Rattle.fix_schedule.proofs.ZoneLemmas.{is_near, one_instant, small}

-- a window ends on one day
pub one_last : (hours : Hours) (day a b : ℤ) → IsLastDay hours day a → IsLastDay hours day b → a ≡ b
one_last hours day a b x y =
    by_lt_z a b (λ sooner. absurd (y.first a sooner x.may))
    (λ le. by_lt_z b a (λ sooner. absurd (x.first b sooner y.may)) (λ ge. omega (arith, signed_arith, le, ge)))

-- it starts at most two days behind the time's day in UTC
pub starts_near : (hours : Hours) (time : ℕ) (day : ℤ) (window : ℕ × ℕ) → IsWindowOn hours time day window → day ≤ℤ pos (time / 86_400_000_000 + 2)
starts_near hours time day window w =
    let near = is_near hours.rule day hours.start_time w.start w.starts in
    omega (arith, signed_arith, near.from, w.from)

-- and ends at most two days before it
pub ends_near : (hours : Hours) (time days : ℕ) (day : ℤ) (window : ℕ × ℕ) → EndsAfter hours days → IsWindowOn hours time day window → pos (time / 86_400_000_000) ≤ℤ (day +ℤ pos (days + 2))
ends_near hours time days day window ends w =
    let near = is_near hours.rule w.last hours.end_time w.end w.ends in
    let last = one_last hours day w.last (day +ℤ pos days) w.ends_on (ends day w.counts) in
    omega (arith, signed_arith, near.to, w.to, hours.end_in, last)

-- the window of a civil day is one
pub one_on_day : (hours : Hours) (time : ℕ) (day : ℤ) (a b : ℕ × ℕ) → IsWindowOn hours time day a → IsWindowOn hours time day b → a ≡ b
one_on_day hours time day a b x y =
    let starts = one_instant hours.rule day hours.start_time x.start y.start x.starts y.starts in
    let last = one_last hours day x.last y.last x.ends_on y.ends_on in
    let ends = one_instant hours.rule y.last hours.end_time x.end y.end (subst (λ d. IsInstant hours.rule d hours.end_time x.end) last x.ends) y.ends in
    let same : (given x.start, given x.end) ≡ (given y.start, given y.end) = λ i. (given (starts i), given (ends i)) in
    x.pair ∙ same ∙ sym y.pair

-- and so is that of a time
pub one_window : (hours : Hours) (time : ℕ) (a b : ℕ × ℕ) → IsLatestWindow hours time a → IsLatestWindow hours time b → a ≡ b
one_window hours time a b x y =
    by_lt_z x.day y.day (λ before. absurd (x.latest y.day b before y.on_day))
    (λ le. by_lt_z y.day x.day (λ behind. absurd (y.latest x.day a behind x.on_day))
    (λ ge. let same : x.day ≡ y.day = omega (arith, signed_arith, le, ge) in
    one_on_day hours time y.day a b (subst (λ d. IsWindowOn hours time d a) same x.on_day) y.on_day))

-- ---- one day

-- the time comes before the day's start
pub starts_after : (hours : Hours) (time : ℕ) (day start : ℤ) → IsInstant hours.rule day hours.start_time start → pos time <ℤ start → (window : ℕ × ℕ) → IsWindowOn hours time day window → ⊥
starts_after hours time day start starts late window w =
    let same = one_instant hours.rule day hours.start_time start w.start starts w.starts in
    omega (arith, signed_arith, same, late, w.from)

-- or behind its end
pub ends_before : (hours : Hours) (time : ℕ) (day last end : ℤ) → IsLastDay hours day last → IsInstant hours.rule last hours.end_time end → end <ℤ pos time → (window : ℕ × ℕ) → IsWindowOn hours time day window → ⊥
ends_before hours time day last end on ends early window w =
    let days = one_last hours day w.last last w.ends_on on in
    let same = one_instant hours.rule last hours.end_time end w.end ends (subst (λ d. IsInstant hours.rule d hours.end_time w.end) days w.ends) in
    omega (arith, signed_arith, same, early, w.to)

-- what casts leave of a time, of the day on which a window ends, and of the days that are looked at
pub as_signed : (time : ℕ) → time ≤ LAST_TIME → to_z w64 time ≡ pos time
as_signed time le = to_z_pos w64 time (omega arith)

pub end_day : (day from : ℤ) (days : ℕ) → IsBetween (neg_ℤ (pos 50)) (pos 49000) day → from ≡ pos days → days ≤ 7 → to_z w64 (of_z w64 (to_z w64 (of_z w64 day) +ℤ to_z w64 (of_z w64 from))) ≡ day +ℤ pos days
end_day day from days near is few =
    let first = small day (omega (arith, signed_arith, near)) in
    let second = small from (omega (arith, signed_arith, is, few)) in
    rw (first, second, is) (small (day +ℤ pos days) (omega (arith, signed_arith, near, few)))

-- ---- all days

-- later days than the one that is looked at first have none
pub none_later : (hours : Hours) (time : ℕ) (later : ℤ) (window : ℕ × ℕ) → (pos (time / 86_400_000_000 + 2) -ℤ pos 0) <ℤ later → IsWindowOn hours time later window → ⊥
none_later hours time later window lt w = omega (arith, signed_arith, lt, starts_near hours time later window w)

-- nor has any day, where none of those that are looked at has
pub none_at_all : (hours : Hours) (time back days : ℕ) → EndsAfter hours days → 5 + days ≤ back → ((later : ℤ) (window : ℕ × ℕ) → (pos (time / 86_400_000_000 + 2) -ℤ pos back) <ℤ later → IsWindowOn hours time later window → ⊥) → (day : ℤ) (window : ℕ × ℕ) → IsWindowOn hours time day window → ⊥
none_at_all hours time back days ends all none day window w = none day window (omega (arith, signed_arith, all, ends_near hours time days day window ends w)) w

pub found : (hours : Hours) (time : ℕ) (day : ℤ) (r : Option (ℕ × ℕ)) → MatchOption r ((window : ℕ × ℕ) → IsWindowOn hours time day window → ⊥) (λ window. IsWindowOn hours time day window) → ((later : ℤ) (other : ℕ × ℕ) → day <ℤ later → IsWindowOn hours time later other → ⊥) → IfSome r (λ window. IsLatestWindow hours time window)
found hours time day None on none = tt
found hours time day (Some window) on none = record { day = day; on_day = on; latest = none }

pub not_found : (hours : Hours) (time : ℕ) (day : ℤ) (r : Option (ℕ × ℕ)) → MatchOption r ((window : ℕ × ℕ) → IsWindowOn hours time day window → ⊥) (λ window. IsWindowOn hours time day window) → is_some r ≡ false → (window : ℕ × ℕ) → IsWindowOn hours time day window → ⊥
not_found hours time day None on is = on
not_found hours time day (Some window) on is = absurd (cc)

pub one_day_more : (hours : Hours) (time back : ℕ) (last : ℤ) → ((later : ℤ) (window : ℕ × ℕ) → (last -ℤ pos back) <ℤ later → IsWindowOn hours time later window → ⊥) → ((window : ℕ × ℕ) → IsWindowOn hours time (last -ℤ pos back) window → ⊥) → (later : ℤ) (window : ℕ × ℕ) → (last -ℤ pos (back + 1)) <ℤ later → IsWindowOn hours time later window → ⊥
one_day_more hours time back last above here later window lt w =
    by_lt_z (last -ℤ pos back) later (λ behind. above later window behind w)
    (λ le. let same : later ≡ last -ℤ pos back = omega (arith, signed_arith, lt, le) in
    here window (subst (λ d. IsWindowOn hours time d window) same w))

-- the day that is looked at first, and each before it
pub first_day : (time : ℕ) → time ≤ LAST_TIME → to_z w64 (of_z w64 (to_z w64 (time / 86_400_000_000) +ℤ pos 2)) ≡ pos (time / 86_400_000_000 + 2)
first_day time le =
    let day : to_z w64 (time / 86_400_000_000) ≡ pos (time / 86_400_000_000) = to_z_pos w64 (time / 86_400_000_000) (omega arith) in
    let sum : pos (time / 86_400_000_000) +ℤ pos 2 ≡ pos (time / 86_400_000_000 + 2) = omega (arith, signed_arith) in
    rw (day, sum) (small (pos (time / 86_400_000_000 + 2)) (omega (arith, signed_arith)))

pub day_before : (time back : ℕ) (from : ℤ) → time ≤ LAST_TIME → from ≡ pos back → back ≤ 12 → to_z w64 (of_z w64 (to_z w64 (of_z w64 (to_z w64 (time / 86_400_000_000) +ℤ pos 2)) -ℤ to_z w64 (of_z w64 from))) ≡ pos (time / 86_400_000_000 + 2) -ℤ pos back
day_before time back from le is few =
    let first = first_day time le in
    let second = small from (omega (arith, signed_arith, is, few)) in
    rw (first, second, is) (small (pos (time / 86_400_000_000 + 2) -ℤ pos back) (omega (arith, signed_arith, few)))

-- the answer is the one window of the time
pub answered : (hours : Hours) (time : ℕ) (r : Option (ℕ × ℕ)) → IfSome r (λ window. IsLatestWindow hours time window) → (IsNone r → (day : ℤ) (window : ℕ × ℕ) → IsWindowOn hours time day window → ⊥) → (window : ℕ × ℕ) → IsLatestWindow hours time window → r ≡ Some window
answered hours time None known none window w = absurd (none refl w.day window w.on_day)
answered hours time (Some one) known none window w = ap Some (one_window hours time one window known w)

first_of : Option (ℕ × ℕ) → ℕ
first_of None = 0
first_of (Some window) = window.0

-- two windows that start at the same time are windows of times in one
pub in_one : (schedule : Option Hours) (a b : ℕ) (first second : ℕ × ℕ) → IsWindow schedule a first → IsWindow schedule b second → ((window : ℕ × ℕ) → IsWindow schedule a window → Some first ≡ Some window) → ((window : ℕ × ℕ) → IsWindow schedule b window → Some second ≡ Some window) → IsTrue (nat_eq first.0 second.0) ↔ AreInOne schedule a b
unfolding first_of
in_one schedule a b first second of_a of_b only_a only_b = (
  λ same. record { first = first; second = second; of_a = of_a; of_b = of_b; one = eqb-true first.0 second.0 same },
  λ one.
      let start : first.0 ≡ one.first.0 = ap first_of (only_a one.first one.of_a) in
      let other : second.0 ≡ one.second.0 = ap first_of (only_b one.second one.of_b) in
      eq-eqb first.0 second.0 (start ∙ one.one ∙ sym other),
)
