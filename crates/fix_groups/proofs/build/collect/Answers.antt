use Rattle.fix_groups.proofs.Collecting.{collect_none, collect_more, collect_all}
use Rattle.fix_groups.proofs.build.collect.Goals as goal

pub loop-field-init : goal.loop-field-init
loop-field-init c = collect_none _ _ _ c.new-all.ensures.items c.into_iter-field-iterator.ensures.into_iter_gives

pub loop-field-preserved : goal.loop-field-preserved
loop-field-preserved c = collect_more _ _ _ _ _ _ _ c.in-Some.ensures.steps c.new.ensures c.in_ok-push.ensures.items c.loop-field.invariant

pub returns : goal.returns
returns c = collect_all _ _ _ c.in-None.ensures.steps c.loop-field.invariant
