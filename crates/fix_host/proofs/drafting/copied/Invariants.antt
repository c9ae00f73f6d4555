use Rattle.fix_host.proofs.DraftingLemmas.{Copied}
use Rattle.fix_host.proofs.drafting.copied.Given as goal

abbrev pub invariant-loop-field : goal.invariant-loop-field
invariant-loop-field l = Copied l.fn.list l.made l.field-iterator
