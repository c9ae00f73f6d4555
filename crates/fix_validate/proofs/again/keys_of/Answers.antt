use Rattle.std.proofs.Common.{◌∙◌, ap}
use Rattle.fix_validate.specs.Index.{key}
use Rattle.fix_validate.proofs.IndexLemmas.{keys_more}
use Rattle.fix_validate.proofs.again.keys_of.Goals as goal

pub loop-i-preserved : goal.loop-i-preserved
loop-i-preserved c =
    keys_more _ _ c.index-fields-i.result _ _ c.key.result c.loop-i-test.true c.index-fields-i.is (c.key.ensures ∙ ap (λ t. key t c.loop-i.i) c.tag.ensures) c.in_ok-push.ensures.items c.loop-i.invariant
