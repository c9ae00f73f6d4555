use Rattle.fix_outbox.specs.Passes.{IsTakerOf}
use Rattle.fix_host.proofs.posting_tests.take_three.Given as goal

abbrev pub invariant-loop : goal.invariant-loop
invariant-loop g l = IsTakerOf l.outbox l.pass
