use Rattle.fix_fields.proofs.ValueLemmas.{day_of_date}
use Rattle.fix_fields.proofs.dates.is_date.Goals as goal

pub returns-in-None : goal.returns-in-None
returns-in-None c = (λ e. cc, λ h. absurd (c.in-None.ensures.value _ _ (day_of_date c.args.value.now h)))
