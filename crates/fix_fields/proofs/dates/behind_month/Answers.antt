use Rattle.fix_fields.proofs.ValueLemmas.{no_month, month_here}
use Rattle.fix_fields.proofs.dates.behind_month.Goals as goal

pub returns-in_err-month : goal.returns-in_err-month
returns-in_err-month c = rw c.from_residual-in_err-month.ensures (no_month c.args.bytes.now _ _ _ _ c.in_ok-_century.ensures c.in_ok-_of_century.ensures c.in_err-month.ensures)

pub returns : goal.returns
returns c = month_here c.args.bytes.now _ _ _ _ _ _ c.in_ok-_century.ensures c.in_ok-_of_century.ensures c.in_ok-month.ensures c.if-month-lt1.false c.if-month-gt12.false
