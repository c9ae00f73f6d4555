use Rattle.std.proofs.Common.{length}
use Rattle.fix_fields.specs.HeaderValues.{IsLeft}
use Rattle.fix_validate.proofs.ReadingLemmas.{Taken}
use Rattle.fix_validate.proofs.reading.collect.Given as goal

abbrev pub invariant-loop-rest : goal.invariant-loop-rest
invariant-loop-rest l = IsLeft l.bytes l.due l.rest (Taken l.all.items)

abbrev pub decreases-loop-rest : goal.decreases-loop-rest
decreases-loop-rest l = length l.rest
