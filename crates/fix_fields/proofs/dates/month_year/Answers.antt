use Rattle.fix_fields.proofs.ValueLemmas.{month_with, no_month_with}
use Rattle.fix_fields.proofs.dates.month_year.Goals as goal

pub returns-in-Some : goal.returns-in-Some
returns-in-Some c = month_with c.args.value.now c.in-Some.rest.now c.is_no_day.result (λ h. let e = c.if-is_date.ensures.1 h in cc) c.in-Some.ensures c.is_no_day.ensures

pub returns-in-None : goal.returns-in-None
returns-in-None c = no_month_with c.args.value.now (λ h. let e = c.if-is_date.ensures.1 h in cc) c.in-None.ensures
