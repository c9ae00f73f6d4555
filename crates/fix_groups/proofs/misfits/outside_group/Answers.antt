use Rattle.std.proofs.Common.{sym, ◌∙◌}
use Rattle.fix_groups.proofs.OpenRuns.{stray_stop, stray_step}
use Rattle.fix_groups.proofs.misfits.outside_group.Goals as goal

pub returns-in-Some : goal.returns-in-Some
returns-in-Some t =
    stray_stop _ _ _ t.index-fields-i.result _ _ _ _ t.loop-i-test.true t.index-fields-i.is t.tag-tag.ensures t.deref.ensures.value t.loop-i.invariant.1 (sym t.in-Some.ensures) t.loop-i.invariant.0

pub loop-i-preserved : goal.loop-i-preserved
loop-i-preserved t =
    stray_step _ _ _ t.index-fields-i.result _ _ _ _ t.loop-i-test.true t.index-fields-i.is t.tag-tag.ensures t.deref.ensures.value t.loop-i.invariant.1 (sym t.left_out.ensures ∙ t.in_default.is) t.in_ok-pass.ensures t.loop-i.invariant.0
