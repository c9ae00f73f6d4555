use Rattle.fix_fields.proofs.ValueLemmas.{clock_of, clock_with}
use Rattle.fix_fields.proofs.dates.is_time_of_day.Goals as goal

pub returns-in-Some : goal.returns-in-Some
returns-in-Some c = rw c.is_some.ensures (clock_with c.args.value.now c.in-Some.rest.now _ c.fraction_of.result c.in-Some.ensures.value c.fraction_of.ensures.value)

pub returns-in-None : goal.returns-in-None
returns-in-None c = (λ e. cc, λ h. absurd (c.in-None.ensures.value _ _ (clock_of c.args.value.now h)))
