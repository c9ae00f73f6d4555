use Rattle.std.proofs.Common.{ap, ◌∙◌, arith}
use Rattle.std.specs.List.{list_all}
use Rattle.fix_dict.specs.Allowed.{is_listed}
use Rattle.fix_dict.proofs.AllowedLemmas.{parts_on}
use Rattle.fix_dict.proofs.allowed.are_listed.Goals as goal

pub loop-i-preserved-then-value-i-ne32 : goal.loop-i-preserved-then-value-i-ne32
loop-i-preserved-then-value-i-ne32 c =
    (omega (arith, c.loop-i.invariant.0), ap (λ ps. list_all (is_listed c.args.values.now) ps) (parts_on c.args.value.now c.loop-i.start c.loop-i.i c.loop-i.invariant.0 c.loop-i-test.true c.if-value-i-ne32.true) ∙ c.loop-i.invariant.1)
