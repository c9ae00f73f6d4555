use Rattle.fix_stage.proofs.StageLemmas.{none_staged}
use Rattle.fix_stage.proofs.staged.Stage.take.Goals as goal

pub invariant_of-self : goal.invariant_of-self
invariant_of-self c =
    rw (c.replace-entries.ensures.after, c.replace-frames.ensures.after, c.new.ensures.items, c.new-2.ensures.items) none_staged
