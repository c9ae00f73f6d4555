-- The instants of civil times on the clock of a zone.
use Rattle.std.specs.Prelude.{◌≡◌, ℕ, ℤ, pos, ◌*◌, ◌+ℤ◌, ◌-ℤ◌, ◌*ℤ◌, Option, Some, None}
use Rattle.std.specs.Int.{int_min}
use Rattle.jiff_core.specs.Date.{epoch_day}
use Rattle.jiff_core.specs.DateTime.{civil_nanos}
use Rattle.jiff_core.specs.Time.{time_nanos}
use Rattle.jiff_core.specs.Timestamp.{nanos_of_seconds}
use Rattle.jiff_core.specs.declared.Offset.{Offset}
use Rattle.jiff_core.specs.declared.civil.datetime.DateTime.{DateTime}
use Rattle.jiff_tz.specs.PosixRule as PosixRule
use Rattle.jiff_tz.specs.Zone.{utc_offset}
use Rattle.jiff_tz.specs.declared.ambiguous.AmbiguousOffset.{AmbiguousOffset}
use Rattle.jiff_tz.specs.declared.ambiguous.AmbiguousOffset.TheVariants.{Unambiguous, Gap, Fold}
use Rattle.jiff_tz.specs.declared.posix.TimeZone.{TimeZone as Rule}

-- the offsets of a civil time by a zone's rule: one, or the two beside a gap or a fold. With no rule the
-- clock is UTC
abbrev pub offsets_in : Option Rule → DateTime → AmbiguousOffset
offsets_in None civil = Unambiguous utc_offset
offsets_in (Some rule) civil = PosixRule.ambiguous_at rule civil

-- when a clock at this offset shows these nanoseconds since 1970-01-01 00:00:00
abbrev pub shown_at : Offset → ℤ → ℤ
shown_at offset nanos = nanos -ℤ nanos_of_seconds offset.seconds

-- by how much the clock is put forward over a gap
abbrev pub gap_length : Offset → Offset → ℤ
gap_length before after = nanos_of_seconds after.seconds -ℤ nanos_of_seconds before.seconds

-- the instant of a civil time. In a gap it is moved forward by the gap's length, to where the clock
-- after the gap shows it; in a fold the earlier of its two instants counts
abbrev pub instant_by : AmbiguousOffset → ℤ → ℤ
instant_by (Unambiguous offset) nanos = shown_at offset nanos
instant_by (Gap before after) nanos = shown_at after (nanos +ℤ gap_length before after)
instant_by (Fold before after) nanos = int_min (shown_at before nanos) (shown_at after nanos)

-- the instant, in microseconds since 1970-01-01 00:00:00 UTC, of a civil day, by its number from
-- 1970-01-01, at so many seconds after midnight
pub record IsInstant (rule : Option Rule) (day : ℤ) (second : ℕ) (instant : ℤ) : Type 0 where
  pub civil : DateTime
  pub on_day : epoch_day civil.date ≡ day
  pub at_second : time_nanos civil.time ≡ second * 1_000_000_000
  pub is : instant *ℤ pos 1000 ≡ instant_by (offsets_in rule civil) (civil_nanos civil)
