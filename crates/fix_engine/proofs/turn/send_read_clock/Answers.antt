use Rattle.std.proofs.lemmas.Result.{err_from_is_err_and}
use Rattle.fix_base.proofs.SeenLemmas.{Trace-append}
use Rattle.fix_engine.specs.Fold.{first_ends, both}
use Rattle.fix_engine.proofs.turn.send_read_clock.Goals as goal

pub returns-in_err-offer_draft-clause-notes : goal.returns-in_err-offer_draft-clause-notes
returns-in_err-offer_draft-clause-notes g c =
    let p = err_from_is_err_and c.from_residual.result c.from_residual.ensures.1 in
    let h = c.in_err-offer_draft.ensures.notes in
    rw (p.1, p.2) (h.0, h.1, first_ends h.2)

pub returns-clause-notes : goal.returns-clause-notes
returns-clause-notes g c =
    let h = c.in_ok-offer_draft.ensures.notes in
    let k = c.read_and_clock.ensures.notes in
    (_, Trace-append _ _ _ _ _ h.1 k.1, both h.2 k.2)
