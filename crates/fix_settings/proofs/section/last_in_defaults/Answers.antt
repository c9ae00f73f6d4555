use Rattle.std.proofs.Common.{◌+◌, sym, ◌∙◌, ap, option_map}
use Rattle.fix_settings.specs.Lent.{pair_read}
use Rattle.fix_settings.specs.declared.line.LineRef.TheVariants.{Passed}
use Rattle.fix_settings.proofs.LineLemmas.{after_default, after_other, read_or, whole_rest}
use Rattle.fix_settings.proofs.section.last_in_defaults.Goals as goal
use Rattle.fix_settings.proofs.section.last_in_defaults.Goals.{then-is_default, else-is_default}

pub loop-i-preserved : goal.loop-i-preserved
loop-i-preserved c = elim c.if-is_default.branch [
  | then-is_default w ↦ rw w.found-is (after_default c.args.key.now c.args.lines.now c.loop-i.i Passed (option_map pair_read c.loop-i.found) (option_map pair_read w.last_in_run.result) (option_map pair_read w.or-found.result) _ c.loop-i-test.true (sym w.if-is_default.ensures) (rw (whole_rest c.args.lines.now (c.loop-i.i + 1)) at w.last_in_run.ensures) (ap (option_map pair_read) w.or-found.ensures ∙ read_or w.last_in_run.result c.loop-i.found) c.loop-i.invariant)
  | else-is_default w ↦ rw w.found-is (after_other c.args.key.now c.args.lines.now c.loop-i.i Passed (option_map pair_read c.loop-i.found) _ c.loop-i-test.true (sym w.if-is_default.ensures) c.loop-i.invariant)
]
