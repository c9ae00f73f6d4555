-- The text of a time is a UTCTimestamp, and has no SOH.
use Rattle.std.proofs.Common.{◌≡◌, ◌≢◌, ℕ, zero, suc, ◌+◌, ◌/◌, ◌%◌, ◌<◌, ◌≤◌, List, [], ◌∷◌, ◌++◌, length, take, sym, ap, subst, ◌∙◌, arith, inl, inr, pos}
use Rattle.std.specs.Str.Parse.{AllDigits}
use Rattle.std.proofs.lemmas.List.{take_all}
use Rattle.fix_base.specs.Frame.{HasNoSoh}
use Rattle.fix_base.specs.Times.{two_digits, fraction_text, Moment, moment_text, time_of, cut_to, IsPrecision, IsFractionLength, IsTimeTextOf, IsTimeText, IsUtcTimestamp}
use Rattle.fix_base.proofs.Digits.{digits_no_soh}

length_of_precision : (digits n : ℕ) → IsPrecision digits → n ≡ digits → IsFractionLength n
length_of_precision digits n p e = elim p [ inl none ↦ inl (e ∙ none) | inr some ↦ elim some [ inl three ↦ inr (inl (e ∙ three)) | inr six ↦ inr (inr (inl (e ∙ six))) ] ]

most_six : (digits : ℕ) → IsPrecision digits → digits ≤ 6
most_six digits p = elim p [ inl none ↦ omega arith | inr some ↦ elim some [ inl three ↦ omega arith | inr six ↦ omega arith ] ]

-- what was written is read as the time cut to the digits that were written
pub written_is_read : (digits time : ℕ) (text : List ℕ) → IsPrecision digits → IsTimeTextOf digits time text → IsUtcTimestamp text (pos (cut_to digits time))
written_is_read digits time text p h =
    let most = most_six digits p in
    let whole : take 6 h.moment.fraction ≡ h.moment.fraction = take_all 6 h.moment.fraction (omega (arith, most, h.many)) in
    record {
      moment = h.moment;
      is = h.is;
      many = length_of_precision digits (length h.moment.fraction) p h.many;
      spelled = h.spelled;
      says = sym h.says ∙ ap (λ (f : List ℕ). time_of (record h.moment { fraction = f })) (sym whole);
    }

-- one more byte that is no SOH
no_soh_more : (byte : ℕ) (bytes : List ℕ) → byte ≢ 1 → HasNoSoh bytes → HasNoSoh (byte ∷ bytes)
no_soh_more byte bytes first rest zero lt = first
no_soh_more byte bytes first rest (suc k) lt = rest k (omega arith)

two_no_soh : (n : ℕ) (bytes : List ℕ) → HasNoSoh bytes → HasNoSoh (two_digits n ++ bytes)
two_no_soh n bytes h = no_soh_more (48 + n / 10) ((48 + n % 10) ∷ bytes) (λ e. omega arith) (no_soh_more (48 + n % 10) bytes (λ e. omega arith) h)

sign_no_soh : (sign : ℕ) (bytes : List ℕ) → 1 < sign → HasNoSoh bytes → HasNoSoh (sign ∷ bytes)
sign_no_soh sign bytes more h = no_soh_more sign bytes (λ e. omega arith) h

fraction_no_soh : (fraction : List ℕ) → AllDigits 10 fraction → HasNoSoh (fraction_text fraction)
fraction_no_soh [] all = λ k lt e. omega arith
fraction_no_soh (d ∷ ds) all = sign_no_soh 46 (d ∷ ds) (omega arith) (digits_no_soh (d ∷ ds) all)

moment_no_soh : (m : Moment) → AllDigits 10 m.fraction → HasNoSoh (moment_text m)
moment_no_soh m all =
    let fraction = fraction_text m.fraction in
    let second = two_digits m.second ++ fraction in
    let minute = two_digits m.minute ++ 58 ∷ second in
    let hour = two_digits m.hour ++ 58 ∷ minute in
    let day = two_digits m.day ++ 45 ∷ hour in
    let month = two_digits m.month ++ day in
    let year = two_digits (m.year % 100) ++ month in
    let from_second : HasNoSoh second = two_no_soh m.second fraction (fraction_no_soh m.fraction all) in
    let from_minute : HasNoSoh minute = two_no_soh m.minute (58 ∷ second) (sign_no_soh 58 second (omega arith) from_second) in
    let from_hour : HasNoSoh hour = two_no_soh m.hour (58 ∷ minute) (sign_no_soh 58 minute (omega arith) from_minute) in
    let from_day : HasNoSoh day = two_no_soh m.day (45 ∷ hour) (sign_no_soh 45 hour (omega arith) from_hour) in
    two_no_soh (m.year / 100) year (two_no_soh (m.year % 100) month (two_no_soh m.month day from_day))

-- the text of a time has no SOH
pub time_text_no_soh : (digits time : ℕ) (text : List ℕ) → IsTimeTextOf digits time text → HasNoSoh text
time_text_no_soh digits time text h = subst HasNoSoh (sym h.spelled) (moment_no_soh h.moment h.is.digits)

pub any_time_text_no_soh : (time : ℕ) (text : List ℕ) → IsTimeText time text → HasNoSoh text
any_time_text_no_soh time text h = time_text_no_soh h.digits time text h.is
