use Rattle.fix_groups.specs.Tagged.{all_tagged}
use Rattle.fix_groups.proofs.TouchedLemmas.{no_misfit}
use Rattle.fix_groups.proofs.misfits.first_misfit_of.Goals as goal

pub returns-then-not-is_touched : goal.returns-then-not-is_touched
returns-then-not-is_touched c = no_misfit c.is_touched.result c.args.root.now (all_tagged c.args.fields.now) c.if-not-is_touched.true c.is_touched.ensures
