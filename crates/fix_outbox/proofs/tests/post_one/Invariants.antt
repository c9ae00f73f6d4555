use Rattle.fix_outbox.specs.Passes.{IsSenderOf}
use Rattle.fix_outbox.proofs.tests.post_one.Given as goal

abbrev pub invariant-loop : goal.invariant-loop
invariant-loop g l = IsSenderOf l.outbox l.pass
