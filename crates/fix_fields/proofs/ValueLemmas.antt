-- The values that a reader of parts accepts.
use Rattle.std.proofs.Common.{◌≡◌, ℕ, ◌+◌, ◌*◌, ◌/◌, ◌%◌, ◌<◌, ◌≤◌, Bool, false, List, [], ◌∷◌, ◌++◌, length, get_or, nat_le, ◌-◌, Option, Some, None, refl, sym, ap, subst, ◌∙◌, arith, pos}
use Rattle.std.specs.Prelude.{IsTrue, ◌↔◌, IfSome, MatchOption}
use Rattle.std.specs.Option.{is_some}
use Rattle.std.specs.Str.Parse.{digits_value}
use Rattle.std.proofs.lemmas.Bool.{le-leb, leb-true}
use Rattle.std.proofs.lemmas.Str.Parse.{digits_value_short}
use Rattle.jiff_core.specs.Calendar.{days_from_civil}
use Rattle.fix_base.specs.Times.{two_digits, fraction_text}
use Rattle.fix_base.proofs.Digits.{numerals}
use Rattle.fix_fields.specs.Value.{IsDigitsOf, IsDate, HasMonth, IsMonthYear, IsCount, IsTimeOfDay}
use Rattle.fix_fields.specs.Value as value
use Rattle.fix_fields.specs.Parts.{IsWeek, IsNoDay}
use Rattle.fix_fields.specs.Parts as parts
use Rattle.fix_fields.specs.Timed.{HasTwo, HasDay, HasClock, HasFraction}
use Rattle.fix_fields.proofs.TimedLemmas.{NoTwo, two_same, clock_same, sign_same}

-- one to nine digits are a number that is read
pub count_digits : (value : List ℕ) → IsCount value → IsDigitsOf (digits_value 10 value) value
count_digits value h = record { digits = h.digits; some = h.some; below = omega (arith, digits_value_short numerals value 9 h.digits h.few); says = refl }

-- a day by its number
pub day_of_date : (value : List ℕ) → (h : IsDate value) → HasDay (days_from_civil (pos h.year) h.month h.day) value []
day_of_date value h = record { year = h.year; month = h.month; day = h.day; is = h.exists; spelled = h.spelled; says = refl }

-- ---- a month

-- a month as its three pairs of digits
record MonthParts (year month : ℕ) (bytes rest : List ℕ) : Type 0 where
  first : List ℕ
  second : List ℕ
  century : HasTwo (year / 100) bytes first
  of_century : HasTwo (year % 100) first second
  of_month : HasTwo month second rest

month_parts : (bytes rest : List ℕ) → (h : HasMonth bytes rest) → MonthParts h.year h.month bytes rest
month_parts bytes rest h =
    let year : h.year < 10000 = h.year_below in
    let month : h.month ≤ 12 = h.last in
    record {
      first = two_digits (h.year % 100) ++ two_digits h.month ++ rest;
      second = two_digits h.month ++ rest;
      century = record { below = omega arith; spelled = h.spelled };
      of_century = record { below = omega arith; spelled = refl };
      of_month = record { below = omega arith; spelled = refl };
    }

-- where the year ends
behind_year : (bytes first second rest : List ℕ) (c y : ℕ) → HasTwo c bytes first → HasTwo y first second → (h : HasMonth bytes rest) → (month_parts bytes rest h).second ≡ second
behind_year bytes first second rest c y p q h =
    let parts = month_parts bytes rest h in
    let s = two_same _ _ bytes parts.first first parts.century p in
    (two_same _ _ first parts.second second (subst (λ (r : List ℕ). HasTwo (h.year % 100) r parts.second) s.1 parts.of_century) q).1

pub no_century : (bytes : List ℕ) → NoTwo bytes → (rest : List ℕ) → HasMonth bytes rest → ⊥
no_century bytes never rest h = never _ _ (month_parts bytes rest h).century

pub no_of_century : (bytes first : List ℕ) (c : ℕ) → HasTwo c bytes first → NoTwo first → (rest : List ℕ) → HasMonth bytes rest → ⊥
no_of_century bytes first c p never rest h =
    let parts = month_parts bytes rest h in
    never _ _ (subst (λ (r : List ℕ). HasTwo (h.year % 100) r parts.second) (two_same _ _ bytes parts.first first parts.century p).1 parts.of_century)

pub no_month : (bytes first second : List ℕ) (c y : ℕ) → HasTwo c bytes first → HasTwo y first second → NoTwo second → (rest : List ℕ) → HasMonth bytes rest → ⊥
no_month bytes first second c y p q never rest h =
    never _ _ (subst (λ (r : List ℕ). HasTwo h.month r rest) (behind_year bytes first second rest c y p q h) (month_parts bytes rest h).of_month)

-- the year has no such month
pub wrong_month : (bytes first second third : List ℕ) (c y m : ℕ) → HasTwo c bytes first → HasTwo y first second → HasTwo m second third → (1 ≤ m → m ≤ 12 → ⊥) → (rest : List ℕ) → HasMonth bytes rest → ⊥
wrong_month bytes first second third c y m p q s never rest h =
    let is = subst (λ (r : List ℕ). HasTwo h.month r rest) (behind_year bytes first second rest c y p q h) (month_parts bytes rest h).of_month in
    let same = (two_same h.month m second rest third is s).0 in
    never (omega (arith, same, h.first)) (omega (arith, same, h.last))

pub month_here : (bytes first second third : List ℕ) (c y m : ℕ) → HasTwo c bytes first → HasTwo y first second → HasTwo m second third → 1 ≤ m → m ≤ 12 → HasMonth bytes third
month_here bytes first second third c y m p q s low high =
    let c_below : c < 100 = p.below in
    let y_below : y < 100 = q.below in
    let c_is : c ≡ (c * 100 + y) / 100 = omega arith in
    let y_is : y ≡ (c * 100 + y) % 100 = omega arith in
    record {
      year = c * 100 + y;
      month = m;
      year_below = omega arith;
      first = low;
      last = high;
      spelled = p.spelled ∙ ap (λ (r : List ℕ). two_digits c ++ r) (q.spelled ∙ ap (λ (r : List ℕ). two_digits y ++ r) s.spelled)
          ∙ ap (λ n. two_digits n ++ two_digits y ++ two_digits m ++ third) c_is ∙ ap (λ n. two_digits ((c * 100 + y) / 100) ++ two_digits n ++ two_digits m ++ third) y_is;
    }

-- ---- a time of day

pub clock_of : (value : List ℕ) → (h : IsTimeOfDay value) → HasClock (h.hour * 3600 + h.minute * 60 + h.second) value (fraction_text h.fraction)
clock_of value h = record { hour = h.hour; minute = h.minute; second = h.second; hour_below = h.hour_below; minute_below = h.minute_below; second_most = h.second_most; spelled = h.spelled; says = refl }

pub time_of_parts : (value rest : List ℕ) (number micros : ℕ) → HasClock number value rest → HasFraction micros rest → IsTimeOfDay value
time_of_parts value rest number micros c f = record {
  hour = c.hour;
  minute = c.minute;
  second = c.second;
  fraction = f.fraction;
  hour_below = c.hour_below;
  minute_below = c.minute_below;
  second_most = c.second_most;
  digits = f.digits;
  many = f.many;
  spelled = c.spelled ∙ ap (λ (r : List ℕ). two_digits c.hour ++ 58 ∷ [] ++ two_digits c.minute ++ 58 ∷ [] ++ two_digits c.second ++ r) f.spelled;
}

pub no_time_fraction : (value rest : List ℕ) (number : ℕ) → HasClock number value rest → ((micros : ℕ) → HasFraction micros rest → ⊥) → IsTimeOfDay value → ⊥
no_time_fraction value rest number c never h =
    let e = (clock_same _ _ value _ rest (clock_of value h) c).1 in
    never _ (record { fraction = h.fraction; digits = h.digits; many = h.many; spelled = sym e; says = refl })

-- ---- what the readers answer

-- a reader that answers the value, where there is one
pub some_known : {A : Type 0} (P : A → Type 0) (r : Option A) → IfSome r P → ((a : A) → P a → r ≡ Some a) → (IsTrue (is_some r) ↔ (a : A) × P a)
some_known P None known each = (λ e. cc, λ h. let e = each h.0 h.1 in cc)
some_known P (Some a) known each = (λ e. (a, known), λ h. refl)

pub count_with : (v : List ℕ) (r : Option ℕ) → length v ≤ 9 → MatchOption r ((number : ℕ) → IsDigitsOf number v → ⊥) (λ number. IsDigitsOf number v) → (IsTrue (is_some r) ↔ IsCount v)
count_with v None few never = (λ e. cc, λ h. absurd (never _ (count_digits v h)))
count_with v (Some number) few h = (λ e. record { digits = h.digits; some = h.some; few = few }, λ c. refl)

pub clock_with : (v rest : List ℕ) (number : ℕ) (r : Option ℕ) → HasClock number v rest → MatchOption r ((micros : ℕ) → HasFraction micros rest → ⊥) (λ micros. HasFraction micros rest) → (IsTrue (is_some r) ↔ IsTimeOfDay v)
clock_with v rest number None c never = (λ e. cc, λ h. absurd (no_time_fraction v rest number c never h))
clock_with v rest number (Some micros) c f = (λ e. time_of_parts v rest number micros c f, λ h. refl)

-- what stands behind a month is one text
month_same : (v r s : List ℕ) → HasMonth v r → HasMonth v s → r ≡ s
month_same v r s p q =
    let a = month_parts v r p in
    let b = month_parts v s q in
    (two_same p.month q.month b.second r s (subst (λ (t : List ℕ). HasTwo p.month t r) (behind_year v b.first b.second r _ _ b.century b.of_century p) a.of_month) b.of_month).1

no_day_of : (v rest : List ℕ) → (IsDate v → ⊥) → HasMonth v rest → IsMonthYear v → IsNoDay rest
no_day_of v rest never m (value.month h) = parts.none (month_same v rest [] m h)
no_day_of v rest never m (value.date h) = absurd (never h)
no_day_of v rest never m (value.week w first last h) = parts.week ((48 + w) ∷ []) (month_same v rest _ m h) (record { number = w; first = first; last = last; is = refl })

month_year_of : (v rest : List ℕ) → HasMonth v rest → IsNoDay rest → IsMonthYear v
month_year_of v rest m (parts.none e) = value.month (subst (HasMonth v) e m)
month_year_of v rest m (parts.week w e h) = value.week h.number h.first h.last (subst (HasMonth v) (e ∙ ap (λ (t : List ℕ). 119 ∷ t) h.is) m)

pub month_with : (v rest : List ℕ) (b : Bool) → (IsDate v → ⊥) → HasMonth v rest → (IsTrue b ↔ IsNoDay rest) → (IsTrue b ↔ IsMonthYear v)
month_with v rest b never m iff = (λ e. month_year_of v rest m (iff.0 e), λ h. iff.1 (no_day_of v rest never m h))

no_month_year : (v : List ℕ) → (IsDate v → ⊥) → ((rest : List ℕ) → HasMonth v rest → ⊥) → IsMonthYear v → ⊥
no_month_year v never none (value.month h) = none _ h
no_month_year v never none (value.date h) = never h
no_month_year v never none (value.week w first last h) = none _ h

pub no_month_with : (v : List ℕ) → (IsDate v → ⊥) → ((rest : List ℕ) → HasMonth v rest → ⊥) → (IsTrue false ↔ IsMonthYear v)
no_month_with v never none = (λ e. cc, λ h. absurd (no_month_year v never none h))

cc_week : (d : ℕ) → (h : IsWeek (d ∷ [])) → d ≡ 48 + h.number
cc_week d h = let e : d ∷ [] ≡ (48 + h.number) ∷ [] = h.is in cc

is_its_week : (rest week : List ℕ) → rest ≡ 119 ∷ week → IsNoDay rest → IsWeek week
is_its_week rest week e (parts.none f) = let wrong : [] ≡ 119 ∷ week = sym f ∙ e in cc
is_its_week rest week e (parts.week w f h) = subst IsWeek (sign_same 119 rest w week f e) h

pub week_with : (text : List ℕ) → 1 ≤ length text → length text < 2 → 49 ≤ get_or text 0 0 → (IsTrue (nat_le (get_or text 0 0) 53) ↔ IsWeek text)
week_with [] some few low = absurd (omega (arith, some))
week_with (d ∷ e ∷ more) some few low = absurd (omega (arith, few))
week_with (d ∷ []) some few low = (
  λ t. let high = leb-true d 53 t in let n : d ≡ 48 + (d - 48) = omega arith in record { number = d - 48; first = omega arith; last = omega (arith, high); is = ap (λ k. k ∷ []) n },
  λ h. let first : d ≡ 48 + h.number = cc_week d h in le-leb d 53 (omega (arith, first, h.last)),
)

pub no_day_with : (rest week : List ℕ) (b : Bool) → rest ≡ 119 ∷ week → (IsTrue b ↔ IsWeek week) → (IsTrue b ↔ IsNoDay rest)
no_day_with rest week b e iff = (λ t. parts.week week e (iff.0 t), λ h. iff.1 (is_its_week rest week e h))
