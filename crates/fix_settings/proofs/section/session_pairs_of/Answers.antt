use Rattle.std.proofs.Common.{◌≡◌, ◌∙◌, ap, refl, get_or, arith}
use Rattle.fix_settings.specs.declared.key.Key.TheVariants.{BeginString}
use Rattle.fix_settings.specs.Lines.{last_of, run_of}
use Rattle.fix_settings.specs.Lent.{lines_read}
use Rattle.fix_settings.specs.Table.{Rule, name_of}
use Rattle.fix_settings.proofs.SectionLemmas.{session_more}
use Rattle.fix_settings.proofs.section.session_pairs_of.Goals as goal

pub loop-i-preserved : goal.loop-i-preserved
loop-i-preserved c = record {
  long = omega (arith, c.in_ok-push.ensures.len, c.loop-i.invariant.long);
  pairs = λ of are.
      let name : c.row_of.result.name.now ≡ name_of (get_or c.args.keys.now c.loop-i.i BeginString) = ap (λ (r : Rule). r.name) c.row_of.ensures in
      rw c.in_ok-push.ensures.items
      (session_more of (run_of (lines_read c.args.behind.now)) c.args.keys.now c.args.defaults.now c.loop-i.pairs.items c.loop-i.i BeginString c.or.result c.last_in_run.result (get_or c.args.defaults.now c.loop-i.i _) c.loop-i-test.true c.requires
      (c.last_in_run.ensures ∙ ap (λ n. last_of n (run_of (lines_read c.args.behind.now))) name) refl c.or.ensures are (c.loop-i.invariant.pairs of are));
}
