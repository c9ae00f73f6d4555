use Rattle.fix_fields.proofs.ValueLemmas.{week_with}
use Rattle.fix_fields.proofs.dates.is_week.Goals as goal

pub returns-then-digit-ge49 : goal.returns-then-digit-ge49
returns-then-digit-ge49 c = week_with c.args.week.now c.in-len1.len_at_least c.in-len1.len_below c.if-digit-ge49.true
