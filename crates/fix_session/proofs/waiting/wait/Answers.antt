use Rattle.std.proofs.Common.{refl}
use Rattle.fix_session.specs.Waits.{passes_by}
use Rattle.fix_session.proofs.waiting.wait.Goals as goal

pub returns-then-not-new-clause-waits : goal.returns-then-not-new-clause-waits
returns-then-not-new-clause-waits c = rw c.if-not-new.true (passes_by refl)

pub returns-clause-waits : goal.returns-clause-waits
returns-clause-waits c = rw c.if-not-new.false c.wait_new.ensures.waits
