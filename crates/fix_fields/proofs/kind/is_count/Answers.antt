use Rattle.fix_fields.proofs.ValueLemmas.{count_with}
use Rattle.fix_fields.proofs.kind.is_count.Goals as goal

pub returns : goal.returns
returns c = rw c.is_some.ensures (count_with c.args.value.now c.digits_of.result c.if-value-gt-MOST_COUNT_DIGITS.false c.digits_of.ensures)
