use Rattle.std.proofs.Common.{arith, sym, ap, ◌∙◌}
use Rattle.fix_groups.proofs.Building.{piece_more}
use Rattle.fix_groups.proofs.build.piece_length.Goals as goal

pub loop-n-preserved : goal.loop-n-preserved
loop-n-preserved t = record {
  some = omega arith;
  within = omega (arith, t.loop-n-test.true);
  piece = piece_more _ _ _ t.index-fields-n.result t.loop-n.invariant.some t.loop-n-test.true (λ e. t.if-get-lead.true (t.get.ensures.value ∙ t.tag.ensures ∙ ap (λ f. f.tag) t.index-fields-n.is ∙ e ∙ sym t.lead-lead.ensures)) t.loop-n.invariant.piece;
}
