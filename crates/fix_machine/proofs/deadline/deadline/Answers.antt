use Rattle.std.proofs.Common.{arith}
use Rattle.fix_machine.proofs.DeadlineLemmas.{when_down, when_waiting, when_leaving, when_quiet, when_up}
use Rattle.fix_machine.proofs.deadline.deadline.Goals as goal

pub returns-in-Down : goal.returns-in-Down
returns-in-Down c = when_down c.args.options.now c.args.state.now c.in-Down.is

pub returns-in-AwaitLogon : goal.returns-in-AwaitLogon
returns-in-AwaitLogon c = when_waiting c.args.options.now c.args.state.now _ c.in-AwaitLogon.is (rw c.from.ensures at c.first_from.ensures)

pub returns-in-LogoutSent : goal.returns-in-LogoutSent
returns-in-LogoutSent c = when_leaving c.args.options.now c.args.state.now _ c.in-LogoutSent.is (rw c.from-in-LogoutSent.ensures at c.first_from-in-LogoutSent.ensures)

pub returns-then-state-eq0 : goal.returns-then-state-eq0
returns-then-state-eq0 c = when_quiet c.args.options.now c.args.state.now c.in-Up.is c.if-state-eq0.true

pub returns-else-state-eq0 : goal.returns-else-state-eq0
returns-else-state-eq0 c =
    rw c.earlier_of.ensures (when_up c.args.options.now c.args.state.now _ _ c.in-Up.is (omega (arith, c.if-state-eq0.false)) (rw (c.unwrap_or-since.ensures, c.from-heart.ensures) at c.first_from-silent.ensures) (rw c.from-heart.ensures at c.first_from-in-Up.ensures))
