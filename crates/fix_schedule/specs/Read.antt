-- The schedule that settings ask for.
use Rattle.std.specs.Prelude.{◌≡◌, ℕ, List, Option, Some, None, option_map}
use Rattle.jiff_tz.specs.PosixReader.{read_whole}
use Rattle.jiff_tz.specs.PosixText.{tz_view}
use Rattle.jiff_tz.specs.declared.posix.TimeZone.{TimeZone as Rule}
use Rattle.fix_settings.specs.declared.session_settings.SessionSettings.{SessionSettings}
use Rattle.fix_schedule.specs.declared.hours.Hours.{Hours}

-- the rule that a text says, as POSIX writes it; none without a text
abbrev pub IsRuleOf : Option (List ℕ) → Option Rule → Type 0
IsRuleOf None rule = rule ≡ None
IsRuleOf (Some text) None = ⊥
IsRuleOf (Some text) (Some rule) = read_whole text ≡ Some (tz_view rule)

-- the text is no rule
abbrev pub IsNoRule : Option (List ℕ) → Type 0
IsNoRule None = ⊥
IsNoRule (Some text) = read_whole text ≡ None

-- StartTime, EndTime, StartDay, EndDay and ZoneRule of the settings
pub record AreHoursOf (s : SessionSettings) (hours : Hours) : Type 0 where
  pub start_time : s.start_time ≡ Some hours.start_time
  pub end_time : s.end_time ≡ Some hours.end_time
  pub start_day : s.start_day ≡ option_map (λ week. week.start_day) hours.week
  pub end_day : s.end_day ≡ option_map (λ week. week.end_day) hours.week
  pub rule : IsRuleOf s.zone_rule hours.rule

abbrev pub IsScheduleOf : SessionSettings → Option Hours → Type 0
IsScheduleOf s None = s.start_time ≡ None
IsScheduleOf s (Some hours) = AreHoursOf s hours
