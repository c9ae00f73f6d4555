use Rattle.std.proofs.Common.{◌≡◌, drop, option_map}
use Rattle.std.specs.Option.{option_or}
use Rattle.fix_settings.specs.Lines.{defaults_of, last_of}
use Rattle.fix_settings.specs.Lent.{lines_read, pair_read}
use Rattle.fix_settings.proofs.section.last_in_defaults.Given as goal

abbrev pub invariant-loop-i : goal.invariant-loop-i
invariant-loop-i l = option_or (last_of l.key (defaults_of (lines_read (drop l.i l.lines)))) (option_map pair_read l.found) ≡ last_of l.key (defaults_of (lines_read l.lines))
