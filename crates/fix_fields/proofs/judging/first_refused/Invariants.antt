use Rattle.std.proofs.Common.{map, take}
use Rattle.fix_fields.specs.Drafted.{given}
use Rattle.fix_fields.proofs.DraftLemmas.{HasJudged}
use Rattle.fix_fields.proofs.judging.first_refused.Given as goal

abbrev pub invariant-loop-item : goal.invariant-loop-item
invariant-loop-item l = HasJudged (map given (take l.item-index l.fields)) l.due l.late
