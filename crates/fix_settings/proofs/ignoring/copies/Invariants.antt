use Rattle.std.proofs.Common.{◌≡◌, take}
use Rattle.fix_settings.specs.Lent.{names_read}
use Rattle.fix_settings.proofs.ignoring.copies.Given as goal

abbrev pub invariant-loop-name : goal.invariant-loop-name
invariant-loop-name l = l.made.items ≡ names_read (take l.name-index l.names)
