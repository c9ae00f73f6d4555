use Rattle.fix_stage.specs.Combine.{goes_well, fails}
use Rattle.fix_steps.proofs.saying.say.Goals as goal

pub returns-in-Ok-clause-notes : goal.returns-in-Ok-clause-notes
returns-in-Ok-clause-notes g c =
    let h = c.in-Ok.ensures.notes in
    (h.0, h.1, goes_well h.2)

pub returns-in-Err-clause-notes : goal.returns-in-Err-clause-notes
returns-in-Err-clause-notes g c =
    let h = c.in-Err.ensures.notes in
    rw c.ending_of.ensures (h.0, h.1, fails h.2)
