use Rattle.std.proofs.Common.{◌≡◌, ◌++◌, drop}
use Rattle.std.specs.Prelude.{flat_map}
use Rattle.fix_settings.specs.Printing.{ignored_line}
use Rattle.fix_settings.proofs.printing.put_ignored.Given as goal

abbrev pub invariant-loop-name : goal.invariant-loop-name
invariant-loop-name l = l.out.items ++ flat_map ignored_line (drop l.name-index l.names) ≡ l.initial.out.items ++ flat_map ignored_line l.names
