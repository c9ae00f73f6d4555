use Rattle.std.proofs.Common.{◌≡◌, drop, false}
use Rattle.fix_settings.specs.Lent.{lines_read}
use Rattle.fix_settings.specs.Reading.{line_refusal}
use Rattle.fix_settings.proofs.judging.line_fault.Given as goal

abbrev pub invariant-loop-line : goal.invariant-loop-line
invariant-loop-line l = line_refusal l.in_section (lines_read (drop l.line-index l.lines)) ≡ line_refusal false (lines_read l.lines)
