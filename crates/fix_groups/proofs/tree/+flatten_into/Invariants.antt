use Rattle.std.proofs.Common.{◌≡◌, ◌++◌, drop}
use Rattle.fix_base.specs.Says.{fields_text}
use Rattle.fix_groups.specs.Flat.{flat}
use Rattle.fix_groups.specs.NodesOf.{nodes_of, items_of}
use Rattle.fix_groups.proofs.tree.+flatten_into.Given as goal

abbrev pub invariant-loop-node : goal.invariant-loop-node
invariant-loop-node l = l.out.items ++ fields_text (flat (nodes_of (drop l.node-index l.node-items))) ≡ l.fn.out.items ++ fields_text (flat l.tree)

abbrev pub invariant-loop-item : goal.invariant-loop-item
invariant-loop-item l = l.out.items ++ fields_text (flat (items_of (drop l.item-index l.item-items))) ≡ l.initial.out.items ++ fields_text (flat (items_of l.item-items))
