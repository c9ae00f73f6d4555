use Rattle.std.proofs.Common.{drop}
use Rattle.fix_groups.specs.Tagged.{all_tagged}
use Rattle.fix_validate.specs.Required.{tag_rows}
use Rattle.fix_validate.proofs.RowLemmas.{GoesOn}
use Rattle.fix_validate.proofs.required.missing_tag.Given as goal

abbrev pub invariant-loop-tag : goal.invariant-loop-tag
invariant-loop-tag l = GoesOn (tag_rows l.tags (all_tagged l.fields)) (tag_rows (drop l.tag-index l.tags) (all_tagged l.fields))
