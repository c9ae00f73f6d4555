use Rattle.std.specs.Prelude.{◌≡◌, ◌++◌, take}
use Rattle.fix_store.specs.Spelling.{spelled_entries}
use Rattle.fix_store.proofs.spelling.add_entries.Given as goal

abbrev pub invariant-loop-nth : goal.invariant-loop-nth
invariant-loop-nth l = l.into.items ≡ l.fn.into.items ++ spelled_entries (take l.nth l.entries)
