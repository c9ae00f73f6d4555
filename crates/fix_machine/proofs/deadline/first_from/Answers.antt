use Rattle.std.proofs.Common.{◌≤◌, arith}
use Rattle.fix_machine.proofs.DeadlineLemmas.{first_capped, passed, not_passed, passed_at_once}
use Rattle.fix_machine.proofs.deadline.first_from.Goals as goal

pub returns-then-after-eq0 : goal.returns-then-after-eq0
returns-then-after-eq0 c =
    rw c.capped.ensures (first_capped c.args.state.now _ _ (omega arith) (λ u h. passed_at_once c.args.after c.args.since u c.if-after-eq0.true) (λ u a b. absurd (omega (arith, a, b))))

pub returns : goal.returns
returns c =
    let some : 1 ≤ c.args.after = omega (arith, c.if-after-eq0.false) in
    rw c.capped-2.ensures (first_capped c.args.state.now _ _ (omega (arith, c.max.ensures)) (λ u h. passed c.args.after c.args.since u (omega (arith, h, c.max.ensures)))
    (λ u a b. not_passed c.args.after c.args.since u some (omega (arith, a, b, c.max.ensures))))
