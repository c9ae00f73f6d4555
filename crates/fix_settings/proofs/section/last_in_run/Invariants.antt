use Rattle.std.proofs.Common.{◌≡◌, drop, option_map}
use Rattle.std.specs.Option.{option_or}
use Rattle.fix_settings.specs.Lines.{run_of, last_of}
use Rattle.fix_settings.specs.Lent.{lines_read, pair_read}
use Rattle.fix_settings.proofs.section.last_in_run.Given as goal

abbrev pub invariant-loop-line : goal.invariant-loop-line
invariant-loop-line l = option_or (last_of l.key (run_of (lines_read (drop l.line-index l.lines)))) (option_map pair_read l.found) ≡ last_of l.key (run_of (lines_read l.lines))
