use Rattle.std.proofs.Common.{◌≡◌, ◌++◌, drop}
use Rattle.fix_settings.specs.Lines.{run_of}
use Rattle.fix_settings.specs.Lent.{lines_read, names_read}
use Rattle.fix_settings.specs.Reading.{ignored_of}
use Rattle.fix_settings.proofs.ignoring.add_run.Given as goal

abbrev pub invariant-loop-line : goal.invariant-loop-line
invariant-loop-line l = names_read l.names.items ++ ignored_of (run_of (lines_read (drop l.line-index l.lines))) ≡ names_read l.initial.names.items ++ ignored_of (run_of (lines_read l.lines))
