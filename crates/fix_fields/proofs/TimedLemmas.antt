-- The parts of a UTCTimestamp.
use Rattle.std.proofs.Common.{◌≡◌, ℕ, ◌+◌, ◌-◌, ◌*◌, ◌/◌, ◌%◌, ◌^◌, ◌<◌, ◌≤◌, List, [], ◌∷◌, ◌++◌, length, take, refl, sym, ap, subst, ◌∙◌, arith, get_or, inl, inr, ℤ, pos, ◌+ℤ◌, ◌*ℤ◌}
use Rattle.std.specs.Str.Parse.{digits_value, AllDigits}
use Rattle.std.specs.Char.{digit_value}
use Rattle.std.proofs.lemmas.Int.{ints}
use Rattle.std.proofs.lemmas.List.{take_all, length-take-le}
use Rattle.std.proofs.lemmas.Int.Digits.{digits_value-lt, digits_value_more}
use Rattle.std.proofs.lemmas.Str.{digit_value_digit}
use Rattle.std.proofs.lemmas.Str.Parse.{digit_at}
use Rattle.jiff_core.specs.Calendar.{IsCivilDate, days_in_month, days_from_civil}
use Rattle.jiff_core.proofs.CalendarLemmas.{days_in_month_bounds}
use Rattle.fix_base.specs.Times.{two_digits, four_digits, fraction_text, micros_of, second_of_day, IsFractionLength, IsUtcTimestamp}
use Rattle.fix_fields.specs.Value.{IsDigitsOf}
use Rattle.fix_fields.specs.Timed.{HasTwo, HasDay, HasClock, HasFraction}

-- the two digits at a front are one number
pub two_same : (m n : ℕ) (bytes r s : List ℕ) → HasTwo m bytes r → HasTwo n bytes s → (m ≡ n) × (r ≡ s)
two_same m n bytes r s p q =
    let e : (48 + m / 10) ∷ (48 + m % 10) ∷ r ≡ (48 + n / 10) ∷ (48 + n % 10) ∷ s = sym p.spelled ∙ q.spelled in
    let below_m : m < 100 = p.below in
    let below_n : n < 100 = q.below in
    let tens : 48 + m / 10 ≡ 48 + n / 10 = cc in
    let ones : 48 + m % 10 ≡ 48 + n % 10 = cc in
    let rest : r ≡ s = cc in
    (omega arith, rest)

-- a sign and the rest are one
pub sign_same : (sign : ℕ) (bytes r s : List ℕ) → bytes ≡ sign ∷ r → bytes ≡ sign ∷ s → r ≡ s
sign_same sign bytes r s p q = let e : sign ∷ r ≡ sign ∷ s = sym p ∙ q in cc

-- a day as its four pairs of digits
pub record DayParts (year month day : ℕ) (bytes rest : List ℕ) : Type 0 where
  pub first : List ℕ
  pub second : List ℕ
  pub third : List ℕ
  pub century : HasTwo (year / 100) bytes first
  pub of_century : HasTwo (year % 100) first second
  pub of_month : HasTwo month second third
  pub of_day : HasTwo day third rest

pub day_parts : (number : ℤ) (bytes rest : List ℕ) → (h : HasDay number bytes rest) → DayParts h.year h.month h.day bytes rest
day_parts number bytes rest h =
    let year : h.year ≤ 9999 = omega (arith, ints, h.is.0.1) in
    let month : h.month ≤ 12 = h.is.1.1 in
    let day : h.day ≤ days_in_month (pos h.year) h.month = h.is.2.1 in
    let most : days_in_month (pos h.year) h.month ≤ 31 = (days_in_month_bounds (pos h.year) h.month).0 in
    record {
      first = two_digits (h.year % 100) ++ two_digits h.month ++ two_digits h.day ++ rest;
      second = two_digits h.month ++ two_digits h.day ++ rest;
      third = two_digits h.day ++ rest;
      century = record { below = omega arith; spelled = h.spelled };
      of_century = record { below = omega arith; spelled = refl };
      of_month = record { below = omega arith; spelled = refl };
      of_day = record { below = omega arith; spelled = refl };
    }

-- no two digits are there
abbrev pub NoTwo : List ℕ → Type 0
NoTwo bytes = (number : ℕ) (rest : List ℕ) → HasTwo number bytes rest → ⊥

pub no_century : (bytes : List ℕ) → NoTwo bytes → (number : ℤ) (rest : List ℕ) → HasDay number bytes rest → ⊥
no_century bytes never number rest h = never _ _ (day_parts number bytes rest h).century

pub no_of_century : (bytes first : List ℕ) (c : ℕ) → HasTwo c bytes first → NoTwo first → (number : ℤ) (rest : List ℕ) → HasDay number bytes rest → ⊥
no_of_century bytes first c p never number rest h =
    let d = day_parts number bytes rest h in
    never _ _ (subst (λ (r : List ℕ). HasTwo (h.year % 100) r d.second) (two_same _ _ bytes d.first first d.century p).1 d.of_century)

-- the place behind the year
behind_year : (number : ℤ) (bytes rest first second : List ℕ) (c y : ℕ) → HasTwo c bytes first → HasTwo y first second → (h : HasDay number bytes rest) → (h.year ≡ c * 100 + y) × ((day_parts number bytes rest h).second ≡ second)
behind_year number bytes rest first second c y p q h =
    let d = day_parts number bytes rest h in
    let s = two_same _ _ bytes d.first first d.century p in
    let t = two_same _ _ first d.second second (subst (λ (r : List ℕ). HasTwo (h.year % 100) r d.second) s.1 d.of_century) q in
    let century : h.year / 100 ≡ c = s.0 in
    let of_century : h.year % 100 ≡ y = t.0 in
    (omega arith, t.1)

pub no_month : (bytes first second : List ℕ) (c y : ℕ) → HasTwo c bytes first → HasTwo y first second → NoTwo second → (number : ℤ) (rest : List ℕ) → HasDay number bytes rest → ⊥
no_month bytes first second c y p q never number rest h =
    let d = day_parts number bytes rest h in
    never _ _ (subst (λ (r : List ℕ). HasTwo h.month r d.third) (behind_year number bytes rest first second c y p q h).1 d.of_month)

-- the place behind the month
behind_month : (number : ℤ) (bytes rest first second third : List ℕ) (c y m : ℕ) → HasTwo c bytes first → HasTwo y first second → HasTwo m second third → (h : HasDay number bytes rest) → (h.month ≡ m) × ((day_parts number bytes rest h).third ≡ third)
behind_month number bytes rest first second third c y m p q s h =
    let d = day_parts number bytes rest h in
    two_same _ _ second d.third third (subst (λ (r : List ℕ). HasTwo h.month r d.third) (behind_year number bytes rest first second c y p q h).1 d.of_month) s

pub no_day : (bytes first second third : List ℕ) (c y m : ℕ) → HasTwo c bytes first → HasTwo y first second → HasTwo m second third → NoTwo third → (number : ℤ) (rest : List ℕ) → HasDay number bytes rest → ⊥
no_day bytes first second third c y m p q s never number rest h =
    let d = day_parts number bytes rest h in
    never _ _ (subst (λ (r : List ℕ). HasTwo h.day r rest) (behind_month number bytes rest first second third c y m p q s h).1 d.of_day)

-- the calendar has no such day
pub no_date : (bytes first second third fourth : List ℕ) (c y m d : ℕ) → HasTwo c bytes first → HasTwo y first second → HasTwo m second third → HasTwo d third fourth
    → (IsCivilDate (pos (c * 100 + y)) m d → ⊥) → (number : ℤ) (rest : List ℕ) → HasDay number bytes rest → ⊥
no_date bytes first second third fourth c y m d p q s t never number rest h =
    let parts = day_parts number bytes rest h in
    let year = behind_year number bytes rest first second c y p q h in
    let month = behind_month number bytes rest first second third c y m p q s h in
    let day = two_same _ _ third rest fourth (subst (λ (r : List ℕ). HasTwo h.day r rest) month.1 parts.of_day) t in
    never (subst (λ n. IsCivilDate (pos (c * 100 + y)) m n) day.0 (subst (λ n. IsCivilDate (pos (c * 100 + y)) n h.day) month.0 (subst (λ n. IsCivilDate (pos n) h.month h.day) year.0 h.is)))

-- the day of the four pairs
pub day_here : (bytes first second third fourth : List ℕ) (c y m d : ℕ) (number : ℤ) → HasTwo c bytes first → HasTwo y first second → HasTwo m second third → HasTwo d third fourth
    → IsCivilDate (pos (c * 100 + y)) m d → number ≡ days_from_civil (pos (c * 100 + y)) m d → HasDay number bytes fourth
day_here bytes first second third fourth c y m d number p q s t is says =
    let y_below : y < 100 = q.below in
    let c_is : c ≡ (c * 100 + y) / 100 = omega arith in
    let y_is : y ≡ (c * 100 + y) % 100 = omega arith in
    record {
      year = c * 100 + y;
      month = m;
      day = d;
      is = is;
      spelled = p.spelled ∙ ap (λ (r : List ℕ). two_digits c ++ r) (q.spelled ∙ ap (λ (r : List ℕ). two_digits y ++ r) (s.spelled ∙ ap (λ (r : List ℕ). two_digits m ++ r) t.spelled))
          ∙ ap (λ n. two_digits n ++ two_digits y ++ two_digits m ++ two_digits d ++ fourth) c_is ∙ ap (λ n. two_digits ((c * 100 + y) / 100) ++ two_digits n ++ two_digits m ++ two_digits d ++ fourth) y_is;
      says = says;
    }

-- ---- the time of day

-- the time of day as its pairs of digits and its signs
pub record ClockParts (hour minute second : ℕ) (bytes rest : List ℕ) : Type 0 where
  pub first : List ℕ
  pub second_sign : List ℕ
  pub of_hour : HasTwo hour bytes (58 ∷ first)
  pub of_minute : HasTwo minute first (58 ∷ second_sign)
  pub of_second : HasTwo second second_sign rest

pub clock_parts : (number : ℕ) (bytes rest : List ℕ) → (h : HasClock number bytes rest) → ClockParts h.hour h.minute h.second bytes rest
clock_parts number bytes rest h = record {
  first = two_digits h.minute ++ 58 ∷ [] ++ two_digits h.second ++ rest;
  second_sign = two_digits h.second ++ rest;
  of_hour = record { below = omega (arith, h.hour_below); spelled = h.spelled };
  of_minute = record { below = omega (arith, h.minute_below); spelled = refl };
  of_second = record { below = omega (arith, h.second_most); spelled = refl };
}

-- the place behind the hour
behind_hour : (number : ℕ) (bytes rest first second : List ℕ) (hour : ℕ) → HasTwo hour bytes first → first ≡ 58 ∷ second → (h : HasClock number bytes rest) → (h.hour ≡ hour) × ((clock_parts number bytes rest h).first ≡ second)
behind_hour number bytes rest first second hour p sign h =
    let parts = clock_parts number bytes rest h in
    let s = two_same _ _ bytes (58 ∷ parts.first) first parts.of_hour p in
    (s.0, sign_same 58 (58 ∷ parts.first) parts.first second refl (s.1 ∙ sign))

pub no_minute : (bytes first second : List ℕ) (hour : ℕ) → HasTwo hour bytes first → first ≡ 58 ∷ second → NoTwo second → (number : ℕ) (rest : List ℕ) → HasClock number bytes rest → ⊥
no_minute bytes first second hour p sign never number rest h =
    let parts = clock_parts number bytes rest h in
    never _ _ (subst (λ (r : List ℕ). HasTwo h.minute r (58 ∷ parts.second_sign)) (behind_hour number bytes rest first second hour p sign h).1 parts.of_minute)

-- the place behind the minute
behind_minute : (number : ℕ) (bytes rest first second third fourth : List ℕ) (hour minute : ℕ) → HasTwo hour bytes first → first ≡ 58 ∷ second → HasTwo minute second third → third ≡ 58 ∷ fourth
    → (h : HasClock number bytes rest) → (h.minute ≡ minute) × ((clock_parts number bytes rest h).second_sign ≡ fourth)
behind_minute number bytes rest first second third fourth hour minute p sign q sign_too h =
    let parts = clock_parts number bytes rest h in
    let s = two_same _ _ second (58 ∷ parts.second_sign) third (subst (λ (r : List ℕ). HasTwo h.minute r (58 ∷ parts.second_sign)) (behind_hour number bytes rest first second hour p sign h).1 parts.of_minute) q in
    (s.0, sign_same 58 (58 ∷ parts.second_sign) parts.second_sign fourth refl (s.1 ∙ sign_too))

pub no_second : (bytes first second third fourth : List ℕ) (hour minute : ℕ) → HasTwo hour bytes first → first ≡ 58 ∷ second → HasTwo minute second third → third ≡ 58 ∷ fourth → NoTwo fourth
    → (number : ℕ) (rest : List ℕ) → HasClock number bytes rest → ⊥
no_second bytes first second third fourth hour minute p sign q sign_too never number rest h =
    let parts = clock_parts number bytes rest h in
    never _ _ (subst (λ (r : List ℕ). HasTwo h.second r rest) (behind_minute number bytes rest first second third fourth hour minute p sign q sign_too h).1 parts.of_second)

-- ---- the digits behind the point

pub digit_below : (ds : List ℕ) (i : ℕ) → AllDigits 10 ds → i < length ds → digit_value (get_or ds i 0) < 10
digit_below ds i all lt = let r = digit_at ds i all lt in omega (arith, r.0, r.1, digit_value_digit (get_or ds i 0) r)

-- so many digits are below that power of ten
pub long_below : (ds : List ℕ) (n : ℕ) → AllDigits 10 ds → length ds ≡ n → digits_value 10 ds < 10 ^ n
long_below ds n all is = subst (λ k. digits_value 10 ds < 10 ^ k) is (digits_value-lt 10 ds all)

few_below : (ds : List ℕ) → AllDigits 10 ds → IsFractionLength (length ds) → digits_value 10 ds < 10 ^ 15
few_below ds all many = elim many [ inl none ↦ omega (arith, long_below ds 0 all none) | inr some ↦ elim some [ inl three ↦ omega (arith, long_below ds 3 all three) | inr more ↦ elim more [ inl six ↦ omega (arith, long_below ds 6 all six) | inr nine ↦ omega (arith, long_below ds 9 all nine) ] ] ]

-- a point before no digits that are any
no_fraction_in : (bytes digits fraction : List ℕ) → bytes ≡ 46 ∷ digits → ((n : ℕ) → IsDigitsOf n digits → ⊥) → AllDigits 10 fraction → IsFractionLength (length fraction) → bytes ≡ fraction_text fraction → ⊥
no_fraction_in bytes digits [] e never all many spelled = let x : [] ≡ 46 ∷ digits = sym spelled ∙ e in cc
no_fraction_in bytes digits (d ∷ ds) e never all many spelled =
    let x : 46 ∷ d ∷ ds ≡ 46 ∷ digits = sym spelled ∙ e in
    let same : d ∷ ds ≡ digits = cc in
    never (digits_value 10 digits) (subst (λ (w : List ℕ). IsDigitsOf (digits_value 10 w) w) same (record { digits = all; some = omega arith; below = few_below (d ∷ ds) all many; says = refl }))

pub no_fraction : (bytes digits : List ℕ) → bytes ≡ 46 ∷ digits → ((n : ℕ) → IsDigitsOf n digits → ⊥) → (number : ℕ) → HasFraction number bytes → ⊥
no_fraction bytes digits e never number h = no_fraction_in bytes digits h.fraction e never h.digits h.many h.spelled

pub point_text : (digits : List ℕ) → 0 < length digits → 46 ∷ digits ≡ fraction_text digits
point_text [] some = absurd (omega arith)
point_text (d ∷ ds) some = refl

-- nine digits, of which six count
pub nine_digits : (ds : List ℕ) → AllDigits 10 ds → length ds ≡ 9 → digits_value 10 ds / 1000 ≡ micros_of (take 6 ds)
nine_digits ds all nine =
    let whole : take 9 ds ≡ ds = take_all 9 ds (omega arith) in
    let six = digits_value_more 10 ds 6 (omega arith) in
    let seven = digits_value_more 10 ds 7 (omega arith) in
    let eight = digits_value_more 10 ds 8 (omega arith) in
    let a = digit_below ds 6 all (omega arith) in
    let b = digit_below ds 7 all (omega arith) in
    let d = digit_below ds 8 all (omega arith) in
    let len : length (take 6 ds) ≡ 6 = length-take-le 6 ds (omega arith) in
    let value : digits_value 10 ds / 1000 ≡ digits_value 10 (take 6 ds) = omega (arith, ap (digits_value 10) whole, six, seven, eight, a, b, d) in
    value ∙ omega (arith, ap (λ n. digits_value 10 (take 6 ds) * 10 ^ (6 - n)) len)

pub nine_here : (bytes digits : List ℕ) (n : ℕ) → bytes ≡ 46 ∷ digits → IsDigitsOf n digits → length digits ≡ 9 → HasFraction (n / 1000) bytes
nine_here bytes digits n e h nine = record {
  fraction = digits;
  digits = h.digits;
  many = inr (inr (inr nine));
  spelled = e ∙ point_text digits h.some;
  says = ap (λ m. m / 1000) h.says ∙ nine_digits digits h.digits nine;
}

-- ---- each part has one reading

pub day_same : (m n : ℤ) (bytes r s : List ℕ) → HasDay m bytes r → HasDay n bytes s → (m ≡ n) × (r ≡ s)
day_same m n bytes r s p q =
    let d = day_parts n bytes s q in
    let year = behind_year m bytes r d.first d.second (q.year / 100) (q.year % 100) d.century d.of_century p in
    let month = behind_month m bytes r d.first d.second d.third (q.year / 100) (q.year % 100) q.month d.century d.of_century d.of_month p in
    let day = two_same p.day q.day d.third r s (subst (λ (t : List ℕ). HasTwo p.day t r) month.1 (day_parts m bytes r p).of_day) d.of_day in
    let whole : p.year ≡ q.year = omega (arith, year.0) in
    let number : days_from_civil (pos p.year) p.month p.day ≡ days_from_civil (pos q.year) q.month q.day =
    ap (λ y. days_from_civil (pos y) p.month p.day) whole ∙ ap (λ k. days_from_civil (pos q.year) k p.day) month.0 ∙ ap (days_from_civil (pos q.year) q.month) day.0 in
    (p.says ∙ number ∙ sym q.says, day.1)

pub clock_same : (m n : ℕ) (bytes r s : List ℕ) → HasClock m bytes r → HasClock n bytes s → (m ≡ n) × (r ≡ s)
clock_same m n bytes r s p q =
    let parts = clock_parts n bytes s q in
    let hour = behind_hour m bytes r (58 ∷ parts.first) parts.first q.hour parts.of_hour refl p in
    let minute = behind_minute m bytes r (58 ∷ parts.first) parts.first (58 ∷ parts.second_sign) parts.second_sign q.hour q.minute parts.of_hour refl parts.of_minute refl p in
    let second = two_same p.second q.second parts.second_sign r s (subst (λ (t : List ℕ). HasTwo p.second t r) minute.1 (clock_parts m bytes r p).of_second) parts.of_second in
    (omega (arith, p.says, q.says, hour.0, minute.0, second.0), second.1)

text_same : (a b : List ℕ) → fraction_text a ≡ fraction_text b → a ≡ b
text_same [] [] e = refl
text_same [] (d ∷ ds) e = cc
text_same (d ∷ ds) [] e = cc
text_same (d ∷ ds) (k ∷ ks) e = cc

pub fraction_same : (m n : ℕ) (bytes : List ℕ) → HasFraction m bytes → HasFraction n bytes → m ≡ n
fraction_same m n bytes p q = p.says ∙ ap (λ (f : List ℕ). micros_of (take 6 f)) (text_same p.fraction q.fraction (sym p.spelled ∙ q.spelled)) ∙ sym q.says

-- ---- the whole

abbrev pub micros_from : ℤ → ℕ → ℕ → ℤ
micros_from day second micros = (day *ℤ pos 86400 +ℤ pos second) *ℤ pos 1000000 +ℤ pos micros

pub record StampParts (value : List ℕ) (time : ℤ) : Type 0 where
  pub day : ℤ
  pub second : ℕ
  pub micros : ℕ
  pub behind_day : List ℕ
  pub behind_clock : List ℕ
  pub is_day : HasDay day value (45 ∷ behind_day)
  pub is_clock : HasClock second behind_day behind_clock
  pub is_fraction : HasFraction micros behind_clock
  pub says : time ≡ micros_from day second micros

pub stamp_parts : (value : List ℕ) (time : ℤ) → IsUtcTimestamp value time → StampParts value time
stamp_parts value time h =
    let m = h.moment in
    record {
      day = days_from_civil (pos m.year) m.month m.day;
      second = second_of_day m;
      micros = micros_of (take 6 m.fraction);
      behind_day = two_digits m.hour ++ 58 ∷ [] ++ two_digits m.minute ++ 58 ∷ [] ++ two_digits m.second ++ fraction_text m.fraction;
      behind_clock = fraction_text m.fraction;
      is_day = record { year = m.year; month = m.month; day = m.day; is = h.is.date; spelled = h.spelled; says = refl };
      is_clock = record { hour = m.hour; minute = m.minute; second = m.second; hour_below = h.is.hour; minute_below = h.is.minute; second_most = h.is.second; spelled = refl; says = refl };
      is_fraction = record { fraction = m.fraction; digits = h.is.digits; many = h.many; spelled = refl; says = refl };
      says = h.says;
    }

pub stamp_here : (value first second behind : List ℕ) (day : ℤ) (clock micros : ℕ) (time : ℤ) → HasDay day value first → first ≡ 45 ∷ second → HasClock clock second behind → HasFraction micros behind
    → time ≡ micros_from day clock micros → IsUtcTimestamp value time
stamp_here value first second behind day clock micros time d sign c f says = record {
  moment = record { year = d.year; month = d.month; day = d.day; hour = c.hour; minute = c.minute; second = c.second; fraction = f.fraction };
  is = record { date = d.is; hour = c.hour_below; minute = c.minute_below; second = c.second_most; digits = f.digits };
  many = f.many;
  spelled = d.spelled ∙ ap (λ (r : List ℕ). four_digits d.year ++ two_digits d.month ++ two_digits d.day ++ r) (sign ∙ ap (λ (r : List ℕ). 45 ∷ r) (c.spelled ∙ ap (λ (r : List ℕ). two_digits c.hour ++ 58 ∷ [] ++ two_digits c.minute ++ 58 ∷ [] ++ two_digits c.second ++ r) f.spelled));
  says = says ∙ ap (λ z. micros_from z clock micros) d.says ∙ ap (λ n. micros_from (days_from_civil (pos d.year) d.month d.day) n micros) c.says ∙ ap (micros_from (days_from_civil (pos d.year) d.month d.day) (c.hour * 3600 + c.minute * 60 + c.second)) f.says;
}

pub no_stamp_day : (value : List ℕ) → ((number : ℤ) (rest : List ℕ) → HasDay number value rest → ⊥) → (time : ℤ) → IsUtcTimestamp value time → ⊥
no_stamp_day value never time h = never _ _ (stamp_parts value time h).is_day

-- the place behind the day
stamp_behind_day : (value first : List ℕ) (day : ℤ) → HasDay day value first → (time : ℤ) → (h : IsUtcTimestamp value time) → 45 ∷ (stamp_parts value time h).behind_day ≡ first
stamp_behind_day value first day d time h = (day_same _ day value _ first (stamp_parts value time h).is_day d).1

pub no_stamp_sign : (value first : List ℕ) (day : ℤ) → HasDay day value first → ((rest : List ℕ) → first ≡ 45 ∷ rest → ⊥) → (time : ℤ) → IsUtcTimestamp value time → ⊥
no_stamp_sign value first day d never time h = never _ (sym (stamp_behind_day value first day d time h))

pub no_stamp_clock : (value first second : List ℕ) (day : ℤ) → HasDay day value first → first ≡ 45 ∷ second → ((number : ℕ) (rest : List ℕ) → HasClock number second rest → ⊥) → (time : ℤ) → IsUtcTimestamp value time → ⊥
no_stamp_clock value first second day d sign never time h =
    let parts = stamp_parts value time h in
    let place : parts.behind_day ≡ second = sign_same 45 first parts.behind_day second (sym (stamp_behind_day value first day d time h)) sign in
    never _ _ (subst (λ (r : List ℕ). HasClock parts.second r parts.behind_clock) place parts.is_clock)

pub no_stamp_fraction : (value first second behind : List ℕ) (day : ℤ) (clock : ℕ) → HasDay day value first → first ≡ 45 ∷ second → HasClock clock second behind → ((number : ℕ) → HasFraction number behind → ⊥) → (time : ℤ) → IsUtcTimestamp value time → ⊥
no_stamp_fraction value first second behind day clock d sign c never time h =
    let parts = stamp_parts value time h in
    let place : parts.behind_day ≡ second = sign_same 45 first parts.behind_day second (sym (stamp_behind_day value first day d time h)) sign in
    let rest : parts.behind_clock ≡ behind = (clock_same _ clock second _ behind (subst (λ (r : List ℕ). HasClock parts.second r parts.behind_clock) place parts.is_clock) c).1 in
    never _ (subst (HasFraction parts.micros) rest parts.is_fraction)

-- a UTCTimestamp says one time
pub stamp_same : (value : List ℕ) (a b : ℤ) → IsUtcTimestamp value a → IsUtcTimestamp value b → a ≡ b
stamp_same value a b p q =
    let x = stamp_parts value a p in
    let y = stamp_parts value b q in
    let day = day_same x.day y.day value _ _ x.is_day y.is_day in
    let place : x.behind_day ≡ y.behind_day = sign_same 45 (45 ∷ x.behind_day) x.behind_day y.behind_day refl day.1 in
    let clock = clock_same x.second y.second y.behind_day _ _ (subst (λ (r : List ℕ). HasClock x.second r x.behind_clock) place x.is_clock) y.is_clock in
    let micros = fraction_same x.micros y.micros y.behind_clock (subst (HasFraction x.micros) clock.1 x.is_fraction) y.is_fraction in
    x.says ∙ ap (λ z. micros_from z x.second x.micros) day.0 ∙ ap (λ n. micros_from y.day n x.micros) clock.0 ∙ ap (micros_from y.day y.second) micros ∙ sym y.says
