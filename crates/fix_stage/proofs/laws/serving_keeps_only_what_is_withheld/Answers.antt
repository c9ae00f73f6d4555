use Rattle.fix_stage.proofs.ServingLemmas.{served_serves}
use Rattle.fix_stage.proofs.laws.serving_keeps_only_what_is_withheld.Goals as goal

pub returns : goal.returns
returns c = served_serves
