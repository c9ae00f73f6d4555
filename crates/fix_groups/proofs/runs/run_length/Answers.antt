use Rattle.std.proofs.Common.{arith, sym, ap, ◌∙◌}
use Rattle.fix_fields.specs.NoTwice.{has_tag}
use Rattle.fix_groups.proofs.Slices.{run_taken}
use Rattle.fix_groups.proofs.runs.run_length.Goals as goal

pub loop-n-preserved : goal.loop-n-preserved
loop-n-preserved t = (
  run_taken _ _ _ _ t.loop-n-test.true (ap (λ f. has_tag f.tag t.args.group.now) (sym t.index-fields-n.is) ∙ ap (λ x. has_tag x t.args.group.now) (sym t.tag.ensures) ∙ sym t.has_tag.ensures ∙ t.if-has_tag.true) t.loop-n.invariant.0,
  omega (arith, t.loop-n-test.true),
)
