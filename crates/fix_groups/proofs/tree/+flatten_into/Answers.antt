use Rattle.std.proofs.Common.{arith, append_assoc}
use Rattle.std.proofs.lemmas.Grind.{common_steps}
use Rattle.fix_fields.proofs.DraftLemmas.{fields_text-append}
use Rattle.fix_groups.proofs.FlatSteps.{item_step, items_count-items_of, flat_past}
use Rattle.fix_groups.proofs.tree.+flatten_into.Goals.{in-Plain+in_ok-push_field-in-Plain, in-Group+in_ok-push_count-in-Group+else-loop-item-test}
use Rattle.fix_groups.proofs.tree.+flatten_into.Goals as goal

pub loop-item-preserved : goal.loop-item-preserved
loop-item-preserved t c = item_step _ _ _ _ c.item-item.result c.loop-item-test.true c.item-item.is c.in_ok-flatten_into-in-Group.ensures c.loop-item.invariant

pub loop-node-preserved : goal.loop-node-preserved
loop-node-preserved t c = elim c.match-node.branch [
  | in-Plain+in_ok-push_field-in-Plain w ↦ grind (arith, common_steps, append_assoc, fields_text-append)
  | in-Group+in_ok-push_count-in-Group+else-loop-item-test w ↦ grind (arith, common_steps, append_assoc, fields_text-append, items_count-items_of, flat_past)
]
