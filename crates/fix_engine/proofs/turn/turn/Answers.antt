use Rattle.std.proofs.Common.{sym, ◌∙◌}
use Rattle.std.proofs.lemmas.Result.{err_from_is_err_and}
use Rattle.fix_base.proofs.SeenLemmas.{Trace-append}
use Rattle.fix_engine.specs.Turn.{stops, keeps, keeps_not}
use Rattle.fix_engine.proofs.turn.turn.Goals as goal

pub returns-in_err-store_expected-clause-notes : goal.returns-in_err-store_expected-clause-notes
returns-in_err-store_expected-clause-notes g c =
    let p = err_from_is_err_and c.from_residual.result c.from_residual.ensures.1 in
    let h = c.send_read_clock-met.ensures.notes in
    let k = c.in_err-store_expected.ensures.notes in
    rw (p.1, p.2) (
      _,
      Trace-append _ _ _ _ _ h.1 k.1,
      keeps_not (sym c.settles.ensures ∙ c.if-settles.true) h.2 k.2,
    )

pub returns-in_ok-store_expected-clause-notes : goal.returns-in_ok-store_expected-clause-notes
returns-in_ok-store_expected-clause-notes g c =
    let h = c.send_read_clock-met.ensures.notes in
    let k = c.in_ok-store_expected.ensures.notes in
    (_, Trace-append _ _ _ _ _ h.1 k.1, keeps (sym c.settles.ensures ∙ c.if-settles.true) h.2 k.2)

pub returns-else-settles-clause-notes : goal.returns-else-settles-clause-notes
returns-else-settles-clause-notes g c =
    let h = c.send_read_clock-met.ensures.notes in
    (h.0, h.1, stops (sym c.settles.ensures ∙ c.if-settles.false) h.2)
