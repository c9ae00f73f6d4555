use Rattle.std.proofs.Common.{◌≡◌, ◌++◌, drop}
use Rattle.fix_settings.specs.Lines.{defaults_of}
use Rattle.fix_settings.specs.Lent.{lines_read, names_read}
use Rattle.fix_settings.specs.Reading.{ignored_of}
use Rattle.fix_settings.proofs.ignoring.add_defaults.Given as goal

abbrev pub invariant-loop-i : goal.invariant-loop-i
invariant-loop-i l = names_read l.names.items ++ ignored_of (defaults_of (lines_read (drop l.i l.lines))) ≡ names_read l.initial.names.items ++ ignored_of (defaults_of (lines_read l.lines))
