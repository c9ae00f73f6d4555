-- What values that lend their texts are.
use Rattle.std.specs.Prelude.{ℕ, ◌==◌, List, map, slice_get, Option, option_map}
use Rattle.std.specs.Option.{option_flatten}
use Rattle.std.specs.List.{slice_split}
use denote.Ref.{Bor}
use Rattle.fix_settings.specs.declared.line.PairRef.{PairRef}
use Rattle.fix_settings.specs.declared.line.LineRef.{LineRef}
use Rattle.fix_settings.specs.declared.line.LineRef.TheVariants as lent
use Rattle.fix_settings.specs.declared.form.Setting.{Setting}
use Rattle.fix_settings.specs.declared.form.Setting.TheVariants as held
use Rattle.fix_settings.specs.declared.table.Row.{Row}
use Rattle.fix_settings.specs.declared.judging.EndpointsRef.{EndpointsRef}
use Rattle.fix_settings.specs.declared.section.SectionRef.{SectionRef}
use Rattle.fix_settings.specs.Reading.{Endpoints}
use Rattle.fix_settings.specs.Forms.{Value, Version, Number, Port, Clock, Day, Flag, Fine, Text, Types}
use Rattle.fix_settings.specs.declared.key.Key.{Key}
use Rattle.fix_settings.specs.Table.{Rule, index_of}
use Rattle.fix_settings.specs.Lines.{Section, run_of, Pair, Line, Passed, Default, Session, Given, Wrong}

abbrev pub pair_read : PairRef → Pair
pair_read p = record { line = p.line; key = p.key.now; value = p.value.now }

abbrev pub line_read : LineRef → Line
line_read lent.Passed = Passed
line_read lent.Default = Default
line_read (lent.Session n) = Session n
line_read (lent.Given p) = Given (pair_read p)
line_read (lent.Wrong n) = Wrong n

abbrev pub lines_read : List LineRef → List Line
lines_read lines = map line_read lines

-- a value, by what types say
abbrev pub held_as : {L : Type 0} → (L → List (List ℕ)) → Setting L → Value
held_as types_of (held.Version begin) = Version begin
held_as types_of (held.Number n) = Number n
held_as types_of (held.Port n) = Port n
held_as types_of (held.Clock s) = Clock s
held_as types_of (held.Day day) = Day day
held_as types_of (held.Flag on) = Flag on
held_as types_of (held.Precision precision) = Fine precision
held_as types_of (held.Text text) = Text text.now
held_as types_of (held.Types types) = Types (types_of types)

-- types joined by commas
abbrev pub value_read : Setting (Bor (List ℕ)) → Value
value_read v = held_as (λ text. slice_split (λ b. b == 44) text.now) v

abbrev pub shown_read : Setting (Bor (List (List ℕ))) → Value
shown_read v = held_as (λ types. types.now) v

abbrev pub rule_read : Row → Rule
rule_read r = record {
  name = r.name.now;
  form = r.form;
  required = r.required;
  default = option_map value_read r.default;
  needs_keys = r.needs_keys.now;
}

abbrev pub pairs_read : List (Option PairRef) → List (Option Pair)
pairs_read pairs = map (option_map pair_read) pairs

-- the pair for a key, among those for all keys in the table's order
abbrev pub pair_at : List (Option Pair) → Key → Option Pair
pair_at pairs k = option_flatten (slice_get pairs (index_of k))

abbrev pub party_read : EndpointsRef → Endpoints
party_read p = record { line = p.line; begin = p.begin.now; sender = p.sender.now; target = p.target.now }

abbrev pub section_read : SectionRef → Section
section_read s = record { line = s.line; pairs = run_of (lines_read s.behind.now) }

abbrev pub names_read : List (Bor (List ℕ)) → List (List ℕ)
names_read names = map (λ name. name.now) names
