use Rattle.std.proofs.Common.{◌≡◌, ◌++◌, drop, map}
use Rattle.fix_settings.specs.Lines.{sections_of}
use Rattle.fix_settings.specs.Lent.{lines_read, section_read}
use Rattle.fix_settings.proofs.section.sections_of.Given as goal

abbrev pub invariant-loop-i : goal.invariant-loop-i
invariant-loop-i l = map section_read l.sections.items ++ sections_of (lines_read (drop l.i l.lines)) ≡ sections_of (lines_read l.lines)
