use Rattle.std.proofs.Common.{length}
use Rattle.fix_fields.proofs.ListLemmas.{HasPassed}
use Rattle.fix_fields.proofs.list.fields.Given as goal

abbrev pub invariant-loop-rest : goal.invariant-loop-rest
invariant-loop-rest l = HasPassed l.fn.bytes l.due l.rest

abbrev pub decreases-loop-rest : goal.decreases-loop-rest
decreases-loop-rest l = length l.rest
