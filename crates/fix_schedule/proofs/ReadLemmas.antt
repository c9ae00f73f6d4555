-- What lawful settings say of a session's hours.
use Rattle.std.proofs.Common.{subst, sym, length, get_or, ◌≡◌, ℕ, ◌<◌, ◌≤◌, true, [], ◌∷◌, List, Option, Some, None, option_map, refl, ap, arith}
use Rattle.std.specs.Prelude.{is_some}
use Rattle.std.specs.List.{AllByRecursion}
use Rattle.fix_base.specs.Lists.{here}
use Rattle.fix_settings.specs.declared.key.Key.TheVariants as key
use Rattle.fix_settings.specs.declared.session_settings.SessionSettings.{SessionSettings}
use Rattle.fix_settings.specs.Forms.{Value, Clock, Day, clock_in, day_in, is_day}
use Rattle.fix_settings.specs.Table.{rule_of}
use Rattle.fix_settings.specs.Lawful.{IsAllowed, AreValid}
use Rattle.fix_settings.proofs.ValueLemmas.{clock_bound, found_among, all_at}

clock_of : (o : Option ℕ) (n : ℕ) → option_map Clock o ≡ Some (Clock n) → o ≡ Some n
clock_of None n e = absurd (cc)
clock_of (Some m) n e = cc

day_of : (o : Option ℕ) (n : ℕ) → option_map Day o ≡ Some (Day n) → o ≡ Some n
day_of None n e = absurd (cc)
day_of (Some m) n e = cc

pub start_below : (s : SessionSettings) (n : ℕ) → AreValid s → s.start_time ≡ Some n → n < 86400
start_below s n lawful e =
    let v : IsAllowed (rule_of key.StartTime) (option_map Clock (Some n)) = rw e at (lawful.each key.StartTime) in
    clock_bound v.text n (clock_of (clock_in v.text) n v.says)

pub end_below : (s : SessionSettings) (n : ℕ) → AreValid s → s.end_time ≡ Some n → n < 86400
end_below s n lawful e =
    let v : IsAllowed (rule_of key.EndTime) (option_map Clock (Some n)) = rw e at (lawful.each key.EndTime) in
    clock_bound v.text n (clock_of (clock_in v.text) n v.says)

-- a day is one of seven
abbrev pub IsOfWeek : ℕ → Type 0
IsOfWeek day = (1 ≤ day) × (day ≤ 7)

week : AllByRecursion IsOfWeek (1 ∷ 2 ∷ 3 ∷ 4 ∷ 5 ∷ 6 ∷ 7 ∷ [])
week = ((omega arith, omega arith), ((omega arith, omega arith), ((omega arith, omega arith), ((omega arith, omega arith), ((omega arith, omega arith), ((omega arith, omega arith), ((omega arith, omega arith), tt)))))))

day_among : (text : List ℕ) (n : ℕ) → option_map Day (day_in text) ≡ Some (Day n) → IsOfWeek n
day_among text n e = all_at IsOfWeek (found_among (is_day text) (1 ∷ 2 ∷ 3 ∷ 4 ∷ 5 ∷ 6 ∷ 7 ∷ []) n (day_of (day_in text) n e)) week

pub start_of_week : (s : SessionSettings) (n : ℕ) → AreValid s → s.start_day ≡ Some n → IsOfWeek n
start_of_week s n lawful e =
    let v : IsAllowed (rule_of key.StartDay) (option_map Day (Some n)) = rw e at (lawful.each key.StartDay) in
    day_among v.text n v.says

pub end_of_week : (s : SessionSettings) (n : ℕ) → AreValid s → s.end_day ≡ Some n → IsOfWeek n
end_of_week s n lawful e =
    let v : IsAllowed (rule_of key.EndDay) (option_map Day (Some n)) = rw e at (lawful.each key.EndDay) in
    day_among v.text n v.says

is_there : {A : Type 0} (g : A → Value) (o : Option A) → is_some (option_map g o) ≡ true → o ≡ None → ⊥
is_there g None t e = absurd (cc)
is_there g (Some a) t e = absurd (cc)

-- an EndTime stands beside each StartTime
pub end_beside : (s : SessionSettings) (n : ℕ) → AreValid s → s.start_time ≡ Some n → s.end_time ≡ None → ⊥
end_beside s n lawful e none =
    is_there Clock s.end_time (lawful.needs_keys key.StartTime key.EndTime here (ap (λ o. is_some (option_map Clock o)) e)) none

-- and StartDay and EndDay beside each other
pub end_day_beside : (s : SessionSettings) (n : ℕ) → AreValid s → s.start_day ≡ Some n → s.end_day ≡ None → ⊥
end_day_beside s n lawful e none =
    is_there Day s.end_day (lawful.needs_keys key.StartDay key.EndDay here (ap (λ o. is_some (option_map Day o)) e)) none

start_day_beside : (s : SessionSettings) (n : ℕ) → AreValid s → s.end_day ≡ Some n → s.start_day ≡ None → ⊥
start_day_beside s n lawful e none =
    is_there Day s.start_day (lawful.needs_keys key.EndDay key.StartDay here (ap (λ o. is_some (option_map Day o)) e)) none

-- without a StartDay there is no EndDay
pub no_end_day : (s : SessionSettings) → AreValid s → s.start_day ≡ None → s.end_day ≡ None
no_end_day s lawful none = at s.end_day refl
  where
    at : (o : Option ℕ) → s.end_day ≡ o → o ≡ None
    at None e = refl
    at (Some n) e = absurd (start_day_beside s n lawful e none)

-- what each session has, the first has
pub first_is : (sessions : List SessionSettings) (s : SessionSettings) → AllByRecursion AreValid sessions → 0 < length sessions → s ≡ get_or sessions 0 s → AreValid s
first_is [] s all some is = absurd (omega arith)
first_is (x ∷ xs) s all some is = subst AreValid (sym is) all.0
