use Rattle.std.proofs.Common.{sym, ap, ◌∙◌}
use Rattle.fix_store.specs.declared.changing.Change.TheVariants as change
use Rattle.fix_store.specs.Folding.{item_of, change_of}
use Rattle.fix_store.proofs.Spellings.{length-entries_in}
use Rattle.fix_store.proofs.changing.change_read.Goals as goal

pub returns-in-Many : goal.returns-in-Many
returns-in-Many c = ap (λ n. change.Entries n c.in-Many.expect) (sym (length-entries_in c.in-Many.count _)) ∙ ap (λ s. change_of (item_of s)) (sym c.in-Many.is)
