use Rattle.std.proofs.Common.{ℕ, arith, subst}
use Rattle.fix_validate.specs.Index.{IsLeast}
use Rattle.fix_validate.proofs.IndexLemmas.{own_key, stands_is}
use Rattle.fix_validate.proofs.again.stands_before.Goals as goal

pub least_from-least-requires-clause-some : goal.least_from-least-requires-clause-some
least_from-least-requires-clause-some c =
    let h = c.requires.index (omega (arith, c.if-fields-le-FEW.false)) in
    rw c.key.ensures (own_key c.args.fields.now c.args.index.now c.args.place c.args.tag h c.requires.place c.requires.tag)

pub returns : goal.returns
returns c =
    let h = c.requires.index (omega (arith, c.if-fields-le-FEW.false)) in
    rw c.key-2.ensures (stands_is c.args.fields.now c.args.index.now c.args.tag c.args.place c.least_from-least.result h c.requires.place (omega arith) (subst (λ (w : ℕ). IsLeast c.args.index.now w c.least_from-least.result) c.key.ensures c.least_from-least.ensures))
