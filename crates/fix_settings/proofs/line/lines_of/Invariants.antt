use Rattle.std.proofs.Common.{◌≡◌, ◌+◌, ◌≤◌, ◌++◌, length}
use Rattle.fix_settings.specs.Lines.{lines_of, numbered, read_lines}
use Rattle.fix_settings.specs.Lent.{lines_read}
use Rattle.fix_settings.proofs.line.lines_of.Given as goal

abbrev pub invariant-loop-rest : goal.invariant-loop-rest
invariant-loop-rest l = record {
  count : l.line + length l.rest ≤ length l.fn.text + 1;
  lines : lines_read l.lines.items ++ numbered l.line (lines_of l.rest) ≡ read_lines l.fn.text;
}

abbrev pub decreases-loop-rest : goal.decreases-loop-rest
decreases-loop-rest l = length l.rest
