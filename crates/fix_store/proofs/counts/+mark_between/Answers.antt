use Rattle.std.proofs.Common.{◌≡◌, ◌+◌, Some, subst, arith}
use Rattle.std.specs.Prelude.{slice_get}
use Rattle.fix_store.proofs.counts.+mark_between.Goals as goal

pub returns-then-middle-low : goal.returns-then-middle-low
returns-then-middle-low t c =
    let low = c.requires.low in
    let next : c.args.low + 1 ≡ c.args.high = omega arith in
    record { at = low.0; is = low.1; below = low.2; above = λ n there. c.requires.high n (subst (λ k. slice_get c.args.before.now k ≡ Some n) next there) }
