use Rattle.std.proofs.lemmas.Result.{err_from_is_err_and}
use Rattle.std.proofs.Common.{arith}
use Rattle.fix_outside.proofs.CallLemmas.{Called-nil}
use Rattle.fix_stage.specs.Staging.{has_number, spent, spent_fault}
use Rattle.fix_stage.proofs.numbering.number.Goals as goal

pub returns-then-sender-len-lt-LAST_SEQ_NUM-clause-calls : goal.returns-then-sender-len-lt-LAST_SEQ_NUM-clause-calls
returns-then-sender-len-lt-LAST_SEQ_NUM-clause-calls g c =
    (_, Called-nil _, has_number (omega (arith, c.len.ensures.is, c.if-sender-len-lt-LAST_SEQ_NUM.true)))

pub returns-in_err-flush-clause-calls : goal.returns-in_err-flush-clause-calls
returns-in_err-flush-clause-calls g c =
    let p = err_from_is_err_and c.from_residual.result c.from_residual.ensures.1 in
    let h = c.in_err-flush.ensures.calls in
    rw (p.1, p.2) (h.0, h.1, spent_fault (omega (arith, c.len.ensures.is, c.if-sender-len-lt-LAST_SEQ_NUM.false)) h.2)

pub returns-clause-calls : goal.returns-clause-calls
returns-clause-calls g c =
    let h = c.in_ok-flush.ensures.calls in
    (h.0, h.1, spent (omega (arith, c.len.ensures.is, c.if-sender-len-lt-LAST_SEQ_NUM.false)) h.2)
