use Rattle.fix_fields.proofs.PriceLemmas.{amount_plain, plain_amount, amount_point, point_amount}
use Rattle.fix_fields.proofs.price.is_amount.Goals as goal

pub returns-in-Some : goal.returns-in-Some
returns-in-Some c = (
  λ e. point_amount c.args.value.now _ _ c.in-Some.ensures.1 (c.are_digits.ensures.0 e),
  λ h. c.are_digits.ensures.1 (amount_point c.args.value.now _ _ c.in-Some.ensures.0 c.in-Some.ensures.1 h),
)

pub returns-in-None : goal.returns-in-None
returns-in-None c = (
  λ e. plain_amount c.args.value.now (c.are_digits-in-None.ensures.0 e),
  λ h. c.are_digits-in-None.ensures.1 (amount_plain c.args.value.now c.in-None.ensures h),
)
