use Rattle.std.proofs.Common.{refl}
use Rattle.fix_host.proofs.DraftingLemmas.{copied_none, copied_more, copied_all}
use Rattle.fix_host.proofs.drafting.copied.Goals as goal

pub loop-field-init : goal.loop-field-init
loop-field-init c = copied_none _ _ _ c.new-made.ensures c.into_iter-field-iterator.ensures.into_iter_gives

pub loop-field-preserved : goal.loop-field-preserved
loop-field-preserved c = copied_more _ _ _ _ _ _ _ c.in-Some.ensures.steps refl c.in_ok-push.ensures.ok c.loop-field.invariant

pub returns : goal.returns
returns c = copied_all _ _ _ c.in-None.ensures.steps c.loop-field.invariant
