use Rattle.fix_fields.proofs.TimedLemmas.{no_century, no_of_century, no_month, no_day}
use Rattle.fix_fields.proofs.times.day_at.Goals as goal

pub returns-in_err-century-clause-value : goal.returns-in_err-century-clause-value
returns-in_err-century-clause-value c = rw c.from_residual.ensures (no_century c.args.bytes.now c.in_err-century.ensures)

pub returns-in_err-of_century-clause-value : goal.returns-in_err-of_century-clause-value
returns-in_err-of_century-clause-value c = rw c.from_residual-in_err-of_century.ensures (no_of_century c.args.bytes.now _ _ c.in_ok-century.ensures c.in_err-of_century.ensures)

pub returns-in_err-month-clause-value : goal.returns-in_err-month-clause-value
returns-in_err-month-clause-value c = rw c.from_residual-in_err-month.ensures (no_month c.args.bytes.now _ _ _ _ c.in_ok-century.ensures c.in_ok-of_century.ensures c.in_err-month.ensures)

pub returns-in_err-day-clause-value : goal.returns-in_err-day-clause-value
returns-in_err-day-clause-value c = rw c.from_residual-in_err-day.ensures (no_day c.args.bytes.now _ _ _ _ _ _ c.in_ok-century.ensures c.in_ok-of_century.ensures c.in_ok-month.ensures c.in_err-day.ensures)
