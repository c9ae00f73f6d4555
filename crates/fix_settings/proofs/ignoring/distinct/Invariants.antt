use Rattle.std.proofs.Common.{◌≡◌, ◌++◌, drop, None, option_copied}
use Rattle.fix_settings.specs.Lent.{names_read}
use Rattle.fix_settings.specs.Reading.{distinct}
use Rattle.fix_settings.proofs.ignoring.distinct.Given as goal

abbrev pub invariant-loop-name : goal.invariant-loop-name
invariant-loop-name l = names_read l.made.items ++ distinct (option_copied l.last) (names_read (drop l.name-index l.names)) ≡ distinct None (names_read l.names)
