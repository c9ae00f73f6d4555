use Rattle.std.proofs.Common.{arith}
use Rattle.std.proofs.lemmas.List.{length-append}
use Rattle.fix_fields.proofs.PriceLemmas.{runs_are, first_run}
use Rattle.fix_fields.proofs.price.are_digits.Goals as goal

pub returns-in-Some : goal.returns-in-Some
returns-in-Some c = rw c.is_some.ensures (runs_are c.args.whole.now c.args.fraction.now _ c.digits_after-in-Some.result (omega (arith, length-append c.args.whole.now c.args.fraction.now)) c.in-Some.ensures c.digits_after-in-Some.ensures)

pub returns-in-None : goal.returns-in-None
returns-in-None c = (λ e. cc, λ h. absurd (c.in-None.ensures _ (first_run c.args.whole.now c.args.fraction.now h.number h.are)))
