use Rattle.fix_outbox.specs.Passes.{IsSenderOf}
use Rattle.fix_outbox.proofs.tests.send.Given as goal

abbrev pub invariant-loop-n : goal.invariant-loop-n
invariant-loop-n g l = IsSenderOf l.outbox l.pass
