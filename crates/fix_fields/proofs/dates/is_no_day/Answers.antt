use Rattle.fix_fields.proofs.ValueLemmas.{no_day_with}
use Rattle.fix_fields.proofs.dates.is_no_day.Goals as goal

pub returns-in-Some : goal.returns-in-Some
returns-in-Some c = no_day_with c.args.rest.now c.in-Some.week.now c.is_week.result c.in-Some.ensures c.is_week.ensures
