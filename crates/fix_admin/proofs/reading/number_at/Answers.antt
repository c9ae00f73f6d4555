use Rattle.std.proofs.Common.{ap, ◌∙◌}
use Rattle.fix_admin.specs.Values.{within}
use Rattle.fix_admin.proofs.IntLemmas.{int_is}
use Rattle.fix_admin.proofs.reading.number_at.Goals as goal

pub returns-clause-is : goal.returns-clause-is
returns-clause-is c = λ fs h.
    rw (← c.first_value.ensures fs h, ← c.in_ok-value.ensures) (c.bounded.ensures.is ∙ ap (within c.args.tag c.args.low c.args.high) (int_is c.in_ok-value.value.now c.int.result c.int.ensures.known c.int.ensures.each))
