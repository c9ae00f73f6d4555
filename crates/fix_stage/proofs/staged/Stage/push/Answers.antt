use Rattle.fix_stage.proofs.StageLemmas.{one_more}
use Rattle.fix_stage.proofs.staged.Stage.push.Goals as goal

pub invariant_of-self-in-Ok-push : goal.invariant_of-self-in-Ok-push
invariant_of-self-in-Ok-push c =
    rw (c.in-Ok-push.ensures.items, c.in-Ok.ensures.items, c.size_of-size.ensures)
    (one_more (record { entries = c.self.inside.entries.items; frames = c.self.inside.frames.items }) _ c.args.entry
    c.args.frame c.self.invariant.0 c.self.invariant.1 c.requires.payload (rw (← c.self.view_is) at c.requires.room))
