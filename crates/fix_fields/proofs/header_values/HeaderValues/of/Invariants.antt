use Rattle.std.proofs.Common.{◌≡◌, ◌+◌, ◌≤◌, length}
use Rattle.fix_fields.specs.HeaderValues.{firsts_of, firsts_with, no_firsts, IsLeft}
use Rattle.fix_fields.proofs.header_values.HeaderValues.of.Given as goal

abbrev pub invariant-loop-noted : goal.invariant-loop-noted
invariant-loop-noted l =
    let n = l.noted in
    record {
      left : IsLeft l.fn.body l.due l.rest (λ all left. firsts_with no_firsts all ≡ firsts_with (firsts_of (record { kind = n.0; number = n.1.0; numbers = n.1.1.0; dup = n.1.1.1.0; sender = n.1.1.1.1.0; target = n.1.1.1.1.1.0; sent = n.1.1.1.1.1.1.0; first_sent = n.1.1.1.1.1.1.1.0 })) left);
      numbers : n.1.1.0 + length l.rest ≤ length l.fn.body;
    }

abbrev pub decreases-loop-noted : goal.decreases-loop-noted
decreases-loop-noted l = length l.rest
