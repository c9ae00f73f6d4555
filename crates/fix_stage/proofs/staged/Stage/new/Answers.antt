use Rattle.fix_stage.proofs.StageLemmas.{none_staged}
use Rattle.fix_stage.proofs.staged.Stage.new.Goals as goal

pub invariant_of-result : goal.invariant_of-result
invariant_of-result c = rw (c.new.ensures.items, c.new-2.ensures.items) none_staged
