-- The instant of a civil time: what jiff gives for it, how far from UTC it lies, and that it is one.
use Rattle.std.proofs.Common.{◌≡◌, ℕ, ℤ, pos, neg_ℤ, ◌*◌, ◌+ℤ◌, ◌-ℤ◌, ◌*ℤ◌, ◌≤ℤ◌, Bool, true, false, Option, Some, None, refl, sym, ◌∙◌, arith, if◌then◌else◌, not, int_lt, to_z, of_z, to_z-of_z, w64}
use Rattle.std.specs.Int.{int_div_euclid}
use Rattle.std.proofs.lemmas.Int.{int_min_is}
use Rattle.jiff_core.specs.Date.{epoch_day}
use Rattle.jiff_core.specs.DateTime.{civil_nanos}
use Rattle.jiff_core.specs.Time.{time_nanos}
use Rattle.jiff_core.specs.Calendar.{IsBetween}
use Rattle.jiff_core.specs.Timestamp.{nanos_of_seconds, IsTimestampNanos}
use Rattle.jiff_core.specs.declared.Offset.{Offset}
use Rattle.jiff_core.specs.declared.Timestamp.{Timestamp}
use Rattle.jiff_core.specs.declared.error.Error.{Error}
use Rattle.std.specs.Prelude.{Result, IsOk}
use Rattle.jiff_core.specs.declared.civil.datetime.DateTime.{DateTime}
use Rattle.jiff_core.proofs.DateLemmas.{epoch_day_injective}
use Rattle.jiff_core.proofs.DateTimeLemmas.{civil_nanos-parts, time_nanos_bound}
use Rattle.jiff_core.proofs.SignedLemmas.{signed_arith, fits_between}
use Rattle.jiff_tz.specs.Ambiguous.{compatible_offset, instant_of, IsInstantAt}
use Rattle.jiff_tz.specs.PosixRule.{rule_nanos, in_window, in_span, saturating_add, saturating_sub, shift_between, ambiguous_behind, ambiguous_ahead, ambiguous_by, ambiguous_at_by}
use Rattle.jiff_tz.specs.declared.ambiguous.AmbiguousOffset.{AmbiguousOffset}
use Rattle.jiff_tz.specs.declared.ambiguous.AmbiguousOffset.TheVariants.{Unambiguous, Gap, Fold}
use Rattle.jiff_tz.specs.declared.posix.Dst.{Dst}
use Rattle.jiff_tz.specs.declared.posix.TimeZone.{TimeZone as Rule}
use Rattle.fix_schedule.specs.Zone.{offsets_in, shown_at, instant_by, IsInstant}

-- in a fold the clock is put back, so the offset before it gives the earlier instant
abbrev GoesBack : AmbiguousOffset → Type 0
GoesBack (Unambiguous offset) = Unit {0}
GoesBack (Gap before after) = Unit {0}
GoesBack (Fold before after) = after.seconds ≤ℤ before.seconds

either : (b : Bool) (x y : AmbiguousOffset) → GoesBack x → GoesBack y → GoesBack (if b then x else y)
either true x y p q = p
either false x y p q = q

back_behind : (std dst : Offset) (w : ℤ × ℤ) (at : ℤ) → dst.seconds ≤ℤ std.seconds → GoesBack (ambiguous_behind std dst w at)
back_behind std dst w at le =
    either (in_window w at) (Unambiguous dst) _ tt
    (either (in_span (saturating_add w.0 (shift_between std dst)) w.0 at) (Fold std dst) _ le
    (either (in_span w.1 (saturating_sub w.1 (shift_between std dst)) at) (Gap dst std) (Unambiguous std) tt tt))

back_ahead : (std dst : Offset) (w : ℤ × ℤ) (at : ℤ) → std.seconds ≤ℤ dst.seconds → GoesBack (ambiguous_ahead std dst w at)
back_ahead std dst w at le =
    either (not (in_window w at)) (Unambiguous std) _ tt
    (either (in_span w.0 (saturating_add w.0 (shift_between std dst)) at) (Gap std dst) _ tt
    (either (in_span (saturating_sub w.1 (shift_between std dst)) w.1 at) (Fold dst std) (Unambiguous dst) le tt))

where_true : (b : Bool) (x y : AmbiguousOffset) → (b ≡ true → GoesBack x) → GoesBack y → GoesBack (if b then x else y)
where_true true x y p q = p refl
where_true false x y p q = q

back_by : (std dst : Offset) (w : ℤ × ℤ) (at : ℤ) → GoesBack (ambiguous_by std dst w at)
back_by std dst w at =
    where_true (int_lt dst.seconds std.seconds) (ambiguous_behind std dst w at) _ (λ e. back_behind std dst w at (omega (arith, signed_arith, e)))
    (where_true (int_lt std.seconds dst.seconds) (ambiguous_ahead std dst w at) (Unambiguous std) (λ e. back_ahead std dst w at (omega (arith, signed_arith, e))) tt)

back_at : (std : Offset) (dst : Option Dst) (civil : DateTime) → GoesBack (ambiguous_at_by std dst civil)
back_at std None civil = tt
back_at std (Some d) civil = back_by std d.offset (rule_nanos civil.date.year d.rule.start (pos 0), rule_nanos civil.date.year d.rule.end (pos 0)) (civil_nanos civil)

goes_back : (rule : Option Rule) (civil : DateTime) → GoesBack (offsets_in rule civil)
goes_back None civil = tt
goes_back (Some rule) civil = back_at rule.std_offset rule.dst civil

compatible_by : (o : AmbiguousOffset) (nanos : ℤ) → GoesBack o → nanos -ℤ nanos_of_seconds (compatible_offset o).seconds ≡ instant_by o nanos
compatible_by (Unambiguous offset) nanos back = refl
compatible_by (Gap before after) nanos back = omega (arith, signed_arith)
compatible_by (Fold before after) nanos back = omega (arith, signed_arith, back, int_min_is (shown_at before nanos) (shown_at after nanos))

-- jiff's choice at the offset before a change is the instant: forward by a gap's length, the earlier in a fold
pub compatible_is : (rule : Option Rule) (civil : DateTime) → instant_of civil (compatible_offset (offsets_in rule civil)) ≡ instant_by (offsets_in rule civil) (civil_nanos civil)
compatible_is rule civil = compatible_by (offsets_in rule civil) (civil_nanos civil) (goes_back rule civil)

-- an instant lies less than 26 hours from where UTC shows the civil time
pub record IsNear (day : ℤ) (second : ℕ) (instant : ℤ) : Type 0 where
  pub from : (day *ℤ pos 86_400_000_000 +ℤ pos (second * 1_000_000)) ≤ℤ (instant +ℤ pos 93_599_000_000)
  pub to : instant ≤ℤ (day *ℤ pos 86_400_000_000 +ℤ pos (second * 1_000_000) +ℤ pos 93_599_000_000)

pub is_near : (rule : Option Rule) (day : ℤ) (second : ℕ) (instant : ℤ) → IsInstant rule day second instant → IsNear day second instant
is_near rule day second instant i =
    let offset = compatible_offset (offsets_in rule i.civil) in
    let same : instant *ℤ pos 1000 ≡ civil_nanos i.civil -ℤ nanos_of_seconds offset.seconds = i.is ∙ sym (compatible_is rule i.civil) in
    let parts = civil_nanos-parts i.civil in
    record {
      from = omega (arith, signed_arith, same, parts, i.on_day, i.at_second, offset.in_range);
      to = omega (arith, signed_arith, same, parts, i.on_day, i.at_second, offset.in_range);
    }

-- a rule looks at the year and at the civil time
same_by : (std : Offset) (dst : Option Dst) (a b : DateTime) → a.date.year ≡ b.date.year → civil_nanos a ≡ civil_nanos b → ambiguous_at_by std dst a ≡ ambiguous_at_by std dst b
same_by std None a b y n = refl
same_by std (Some d) a b y n = λ i. ambiguous_by std d.offset (rule_nanos (y i) d.rule.start (pos 0), rule_nanos (y i) d.rule.end (pos 0)) (n i)

same_offsets : (rule : Option Rule) (a b : DateTime) → a.date.year ≡ b.date.year → civil_nanos a ≡ civil_nanos b → offsets_in rule a ≡ offsets_in rule b
same_offsets None a b y n = refl
same_offsets (Some rule) a b y n = same_by rule.std_offset rule.dst a b y n

same_thousand : (a b : ℤ) → a *ℤ pos 1000 ≡ b *ℤ pos 1000 → a ≡ b
same_thousand a b e = omega (arith, signed_arith, e)

-- a civil time has one instant
pub one_instant : (rule : Option Rule) (day : ℤ) (second : ℕ) (a b : ℤ) → IsInstant rule day second a → IsInstant rule day second b → a ≡ b
one_instant rule day second a b x y =
    let days : epoch_day x.civil.date ≡ epoch_day y.civil.date = x.on_day ∙ sym y.on_day in
    let nanos : civil_nanos x.civil ≡ civil_nanos y.civil = omega (arith, signed_arith, days, x.at_second, y.at_second, civil_nanos-parts x.civil, civil_nanos-parts y.civil) in
    let offsets = same_offsets rule x.civil y.civil (epoch_day_injective x.civil.date y.civil.date days).0 nanos in
    let same : instant_by (offsets_in rule x.civil) (civil_nanos x.civil) ≡ instant_by (offsets_in rule y.civil) (civil_nanos y.civil) = λ i. instant_by (offsets i) (nanos i) in
    same_thousand a b (x.is ∙ same ∙ sym y.is)

-- the instant's whole seconds are all of it
pub whole_seconds : (civil : DateTime) (offset : Offset) (second : ℕ) (n s : ℤ) → time_nanos civil.time ≡ second * 1_000_000_000 → n ≡ instant_of civil offset → s ≡ int_div_euclid n (pos 1_000_000_000) → (s *ℤ pos 1_000_000) *ℤ pos 1000 ≡ instant_of civil offset
whole_seconds civil offset second n s time is floor = omega (arith, signed_arith, time, is, floor, civil_nanos-parts civil)

instant_in : (civil : DateTime) (offset : Offset) (day : ℤ) → epoch_day civil.date ≡ day → IsBetween (neg_ℤ (pos 100)) (pos 50000) day → IsTimestampNanos (instant_of civil offset)
instant_in civil offset day on near =
    omega (arith, signed_arith, on, near, offset.in_range, civil_nanos-parts civil, time_nanos_bound civil.time)

-- the days that are looked at have instants at every offset
pub has_instant : (civil : DateTime) {offset : Offset} (day : ℤ) (r : Result Timestamp Error) → IsInstantAt civil offset r → epoch_day civil.date ≡ day → IsBetween (neg_ℤ (pos 100)) (pos 50000) day → IsOk r
has_instant civil {offset} day r at on near = at.succeeds.1 (instant_in civil offset day on near)

-- what is left of the casts of a small number
pub small : (z : ℤ) → IsBetween (neg_ℤ (pos 9_000_000_000_000_000)) (pos 9_000_000_000_000_000) z → to_z w64 (of_z w64 z) ≡ z
small z b = to_z-of_z (fits_between w64 z (omega (arith, signed_arith, b)))

pub is_instant : (rule : Option Rule) (civil : DateTime) (day : ℤ) (second : ℕ) (n s : ℤ) → epoch_day civil.date ≡ day → IsBetween (neg_ℤ (pos 100)) (pos 50000) day → time_nanos civil.time ≡ second * 1_000_000_000 → n ≡ instant_of civil (compatible_offset (offsets_in rule civil)) → s ≡ int_div_euclid n (pos 1_000_000_000) → IsInstant rule day second (to_z w64 (of_z w64 (to_z w64 (of_z w64 s) *ℤ pos 1_000_000)))
is_instant rule civil day second n s on near time is floor =
    let offset = compatible_offset (offsets_in rule civil) in
    let whole = whole_seconds civil offset second n s time is floor in
    let bound : IsBetween (neg_ℤ (pos 9_000_000_000)) (pos 9_000_000_000) s = omega (arith, signed_arith, whole, on, near, offset.in_range, civil_nanos-parts civil, time_nanos_bound civil.time) in
    let first : to_z w64 (of_z w64 s) ≡ s = small s (omega (arith, signed_arith, bound)) in
    let second_one : to_z w64 (of_z w64 (s *ℤ pos 1_000_000)) ≡ s *ℤ pos 1_000_000 = small (s *ℤ pos 1_000_000) (omega (arith, signed_arith, bound)) in
    rw (first, second_one) (record { civil = civil; on_day = on; at_second = time; is = whole ∙ compatible_is rule civil })
