use Rattle.fix_stage.proofs.RepeatLemmas.{first_split, some_first}
use Rattle.fix_stage.proofs.repeating.kind_and_rest.Goals as goal

pub unreachable-requires : goal.unreachable-requires
unreachable-requires c = some_first _ c.requires c.in-None.ensures

pub returns : goal.returns
returns c = first_split _ _ _ c.requires c.in-Some.ensures
