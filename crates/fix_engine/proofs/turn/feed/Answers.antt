use Rattle.fix_base.proofs.SeenLemmas.{Trace-nil}
use Rattle.fix_engine.specs.Reading.{fed_frames, fed_memory}
use Rattle.fix_engine.specs.Turn.{beside}
use Rattle.fix_engine.proofs.turn.feed.Goals as goal

pub returns-in-Ok-clause-notes : goal.returns-in-Ok-clause-notes
returns-in-Ok-clause-notes g c =
    let h = rw (c.in-Ok.ensures.ok, c.deref.ensures.value) at c.answer_frames.ensures.notes in
    (h.0, h.1, beside (fed_frames h.2))

pub returns-in-Err-clause-notes : goal.returns-in-Err-clause-notes
returns-in-Err-clause-notes g c = rw c.in-Err.ensures.err (_, Trace-nil _, beside fed_memory)
