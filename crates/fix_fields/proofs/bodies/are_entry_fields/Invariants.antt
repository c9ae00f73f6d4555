use Rattle.std.proofs.Common.{length, None}
use Rattle.std.specs.Prelude.{◌↔◌}
use Rattle.fix_fields.specs.Bodies.{HasEntryFields}
use Rattle.fix_fields.proofs.bodies.are_entry_fields.Given as goal

abbrev pub invariant-loop-rest : goal.invariant-loop-rest
invariant-loop-rest l = HasEntryFields l.due l.rest ↔ HasEntryFields None l.fn.bytes

abbrev pub decreases-loop-rest : goal.decreases-loop-rest
decreases-loop-rest l = length l.rest
