use Rattle.fix_top.proofs.ServeLemmas.{reopened_goes, reopened_down}
use Rattle.fix_top.proofs.turn_tests.reopen.Goals as goal

pub reopen-requires : goal.reopen-requires
reopen-requires g c = rw c.requires.stopped tt

pub returns-in-Ok-clause-goes : goal.returns-in-Ok-clause-goes
returns-in-Ok-clause-goes g c = reopened_goes _ _ _ _ _ c.in-Ok.ensures.loads.2.2

pub returns-in-Ok-clause-down : goal.returns-in-Ok-clause-down
returns-in-Ok-clause-down g c = reopened_down _ _ _ _ _ c.in-Ok.ensures.loads.2.2

pub returns-in-Ok-clause-stands : goal.returns-in-Ok-clause-stands
returns-in-Ok-clause-stands g c = c.in-Ok.ensures.stands
