use Rattle.std.proofs.Common.{◌≡◌, ◌++◌, drop}
use Rattle.fix_parts.proofs.copies.copy_entries.Given as goal

-- what is copied and what is still to copy make the whole
abbrev pub invariant-loop-entry : goal.invariant-loop-entry
invariant-loop-entry l = l.made.items ++ drop l.entry-index l.entries ≡ l.initial.entries
