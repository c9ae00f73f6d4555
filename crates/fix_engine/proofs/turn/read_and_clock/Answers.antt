use Rattle.std.proofs.lemmas.Result.{err_from_is_err_and}
use Rattle.fix_base.proofs.SeenLemmas.{Trace-append}
use Rattle.fix_engine.proofs.EndedLemmas.{beside_ends, beside_both}
use Rattle.fix_engine.proofs.turn.read_and_clock.Goals as goal

pub returns-in_err-read_frames-clause-notes : goal.returns-in_err-read_frames-clause-notes
returns-in_err-read_frames-clause-notes g c =
    let p = err_from_is_err_and c.from_residual.result c.from_residual.ensures.1 in
    let h = c.in_err-read_frames.ensures.notes in
    rw (p.1, p.2) (h.0, h.1, beside_ends _ _ _ _ _ _ h.2)

pub returns-clause-notes : goal.returns-clause-notes
returns-clause-notes g c =
    let h = c.in_ok-read_frames.ensures.notes in
    let k = c.read_clock.ensures.notes in
    (_, Trace-append _ _ _ _ _ h.1 k.1, beside_both _ _ _ _ _ _ _ _ h.2 k.2)
