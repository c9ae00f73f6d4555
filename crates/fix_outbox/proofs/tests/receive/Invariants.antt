use Rattle.std.proofs.Common.{◌≡◌, ◌≤◌}
use Rattle.fix_outbox.specs.Passes.{IsTakerOf, count_of}
use Rattle.fix_outbox.proofs.tests.receive.Given as goal

abbrev pub invariant-loop : goal.invariant-loop
invariant-loop g l = IsTakerOf l.outbox l.pass × (count_of l.pass ≡ count_of l.initial.pass) × (l.count ≤ 2000)
