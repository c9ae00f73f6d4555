-- How many days behind its first day a window ends, where it has a StartDay and an EndDay.
use Rattle.std.proofs.Common.{◌≡◌, ℕ, ℤ, pos, ◌+◌, ◌-◌, ◌%◌, ◌<◌, ◌≤◌, ◌+ℤ◌, ◌<ℤ◌, ◌≤ℤ◌, inl, inr, Some, refl, arith}
use Rattle.std.proofs.lemmas.Bool.{cases_lt}
use Rattle.jiff_core.proofs.CalendarLemmas.{weekday_number-parts}
use Rattle.jiff_core.proofs.SignedLemmas.{signed_arith, one_part}
use Rattle.jiff_core.specs.Calendar.{weekday_number}
use Rattle.fix_schedule.specs.declared.hours.Hours.{Hours}
use Rattle.fix_schedule.specs.declared.hours.Week.{Week}
use Rattle.fix_schedule.specs.Days.{MayEnd, EndsAfter}

-- the weekday of a day so many days on
week_on : (day last : ℤ) (start end k : ℕ) → weekday_number day + 1 ≡ start → 1 ≤ end → end ≤ 7 → k % 7 ≡ (end + 7 - start) % 7 → last ≡ day +ℤ pos k → weekday_number last + 1 ≡ end
week_on day last start end k counts from to is on = omega (arith, signed_arith, counts, from, to, is, on, one_part day, one_part last, weekday_number-parts day, weekday_number-parts last)

-- between a day and the first of another weekday behind it lies none of that
not_sooner : (day sooner last : ℤ) (start end k : ℕ) → weekday_number day + 1 ≡ start → weekday_number sooner + 1 ≡ end → k ≡ (end + 7 - start) % 7 → last ≡ day +ℤ pos k → day ≤ℤ sooner → sooner <ℤ last → ⊥
not_sooner day sooner last start end k counts ends is on from to = omega (arith, signed_arith, counts, ends, is, on, from, to, one_part day, one_part sooner, weekday_number-parts day, weekday_number-parts sooner)

-- nor in the week behind a day another of its weekday
not_in_week : (day sooner last : ℤ) (start : ℕ) → weekday_number day + 1 ≡ start → weekday_number sooner + 1 ≡ start → last ≡ day +ℤ pos 7 → day <ℤ sooner → sooner <ℤ last → ⊥
not_in_week day sooner last start counts ends on from to = omega (arith, signed_arith, counts, ends, on, from, to, one_part day, one_part sooner, weekday_number-parts day, weekday_number-parts sooner)

not_before : (hours : Hours) (day last : ℤ) → MayEnd hours day last → day ≤ℤ last
not_before hours day last may = elim may.after [
  | inl behind ↦ omega (arith, signed_arith, behind)
  | inr same ↦ (let e = same.0 in omega (arith, signed_arith, e))
]

pub different_days : (hours : Hours) (week : Week) (days : ℕ) → hours.week ≡ Some week → (week.start_day ≡ week.end_day → ⊥) → days ≡ (week.end_day + 7 - week.start_day) % 7 → EndsAfter hours days
different_days hours week days is apart days_are day counts =
    let on : weekday_number day + 1 ≡ week.start_day = rw is at counts in
    record {
      may = record {
        after = inl (omega (arith, signed_arith, apart, days_are, week.start_from, week.start_to, week.end_from, week.end_to));
        ends = rw is (week_on day (day +ℤ pos days) week.start_day week.end_day days on week.end_from week.end_to (omega (arith, days_are)) refl);
      };
      first = λ sooner lt may.
          let ends : weekday_number sooner + 1 ≡ week.end_day = rw is at may.ends in
          not_sooner day sooner (day +ℤ pos days) week.start_day week.end_day days on ends days_are refl (not_before hours day sooner may) lt;
    }

same_at_once : (hours : Hours) (week : Week) → hours.week ≡ Some week → week.start_day ≡ week.end_day → hours.start_time < hours.end_time → EndsAfter hours 0
same_at_once hours week is same lt day counts =
    let on : weekday_number day + 1 ≡ week.start_day = rw is at counts in
    record {
      may = record {
        after = inr (omega (arith, signed_arith), lt);
        ends = rw is (week_on day (day +ℤ pos 0) week.start_day week.end_day 0 on week.end_from week.end_to (omega (arith, same)) refl);
      };
      first = λ sooner before may. let from = not_before hours day sooner may in omega (arith, signed_arith, from, before);
    }

same_in_a_week : (hours : Hours) (week : Week) → hours.week ≡ Some week → week.start_day ≡ week.end_day → hours.end_time ≤ hours.start_time → EndsAfter hours 7
same_in_a_week hours week is same le day counts =
    let on : weekday_number day + 1 ≡ week.start_day = rw is at counts in
    record {
      may = record {
        after = inl (omega (arith, signed_arith));
        ends = rw is (week_on day (day +ℤ pos 7) week.start_day week.end_day 7 on week.end_from week.end_to (omega (arith, same)) refl);
      };
      first = λ sooner before may.
          let ends : weekday_number sooner + 1 ≡ week.end_day = rw is at may.ends in
          elim may.after [
            | inl behind ↦ not_in_week day sooner (day +ℤ pos 7) week.start_day on (rw same ends) refl behind before
            | inr both ↦ (let lt = both.1 in omega (arith, lt, le))
          ];
    }

pub same_days : (hours : Hours) (week : Week) (days : ℕ) → hours.week ≡ Some week → week.start_day ≡ week.end_day → (hours.start_time < hours.end_time → days ≡ 0) → (hours.end_time ≤ hours.start_time → days ≡ 7) → EndsAfter hours days
same_days hours week days is same none all = elim (cases_lt hours.start_time hours.end_time) [
  | inl lt ↦ rw (none lt) (same_at_once hours week is same lt)
  | inr le ↦ rw (all le) (same_in_a_week hours week is same le)
]
