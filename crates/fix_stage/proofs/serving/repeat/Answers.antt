use Rattle.fix_outside.proofs.CallLemmas.{Called-nil}
use Rattle.fix_stage.specs.Serving.{repeat_written, repeat_memory}
use Rattle.fix_stage.proofs.serving.repeat.Goals as goal

pub returns-in_default-clause-calls : goal.returns-in_default-clause-calls
returns-in_default-clause-calls g c = (_, Called-nil _, repeat_memory)

pub returns-clause-calls : goal.returns-clause-calls
returns-clause-calls g c =
    let h = c.write_one.ensures.calls in
    (h.0, h.1, repeat_written _ c.in-Ok.ensures h.2)
