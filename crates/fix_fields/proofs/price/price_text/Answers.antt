use Rattle.fix_fields.proofs.PriceLemmas.{signed}
use Rattle.fix_fields.proofs.price.price_text.Goals as goal

pub returns-in-Some : goal.returns-in-Some
returns-in-Some c = signed c.args.value.now c.in-Some.amount.now c.is_amount.result c.in-Some.ensures c.is_amount.ensures
