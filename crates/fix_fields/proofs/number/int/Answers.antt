use Rattle.std.proofs.Common.{arith}
use Rattle.std.proofs.lemmas.Int.{ints}
use Rattle.fix_fields.specs.Value.{plain, minus}
use Rattle.fix_fields.proofs.number.int.Goals as goal

pub returns-in_ok-size-in-Some-clause-known : goal.returns-in_ok-size-in-Some-clause-known
returns-in_ok-size-in-Some-clause-known c =
    let h = c.in_ok-size-in-Some.ensures in
    minus c.in_ok-size-in-Some.size c.in-Some.digits.now c.in-Some.ensures h (omega (arith, ints, h.below, h.says))

pub returns-in_ok-size-in-None-clause-known : goal.returns-in_ok-size-in-None-clause-known
returns-in_ok-size-in-None-clause-known c =
    let h = c.in_ok-size-in-None.ensures in
    plain c.in_ok-size-in-None.size h (omega (arith, ints, h.below, h.says))
