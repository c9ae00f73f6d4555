use Rattle.fix_outbox.specs.Passes.{IsSenderOf}
use Rattle.fix_outbox.proofs.tests.fill.Given as goal

abbrev pub invariant-loop-number : goal.invariant-loop-number
invariant-loop-number g l = IsSenderOf l.outbox l.pass
