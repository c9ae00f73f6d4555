use Rattle.std.proofs.Common.{arith}
use Rattle.fix_resend.proofs.WalkLemmas.{step_again, step_open, step_last}
use Rattle.fix_resend.proofs.walk.Walk.step.Goals as goal

pub returns-then-app : goal.returns-then-app
returns-then-app c = rw (← c.self.view_is, c.if-app.true, c.gap_fill.ensures) (step_again _ (omega arith))

pub returns-then-number-self : goal.returns-then-number-self
returns-then-number-self c = rw (← c.self.view_is, c.if-app.false) (step_open _ (omega arith) c.if-number-self.true)

pub returns : goal.returns
returns c = rw (← c.self.view_is, c.if-app.false, c.gap_fill-2.ensures) (step_last _ (omega arith) c.if-number-self.false)
