-- Each child is smaller than what holds it.
use Rattle.std.specs.Prelude.{◌+◌, ◌≤◌, List, [], ◌∷◌, max}
use Rattle.std.proofs.Common.{arith}
use denote.Param.Weighed.{most}
use Rattle.fix_groups.specs.Nodes.{Nodes, nodes_size}
use Rattle.fix_groups.specs.NodesOf.{nodes_of, items_of}
use Rattle.fix_groups.specs.declared.tree.Node.{Node}
use Rattle.fix_groups.specs.declared.tree.Node.TheVariants.{Plain, Group}
use Rattle.fix_groups.specs.declared.tree.Tree.TheDeep.{deep-Node}

pub items_fall : (ts : List Nodes) → most (λ t. nodes_size t + 1) ts ≤ nodes_size (items_of ts)
items_fall [] = omega arith
items_fall (t ∷ ts) = omega (arith, items_fall ts)

pub tree_falls : (ns : List Node) → max (most deep-Node ns) 0 ≤ nodes_size (nodes_of ns)
tree_falls [] = omega arith
tree_falls (Plain t v ∷ ns) = omega (arith, tree_falls ns)
tree_falls (Group c is ∷ ns) = omega (arith, tree_falls ns, items_fall is.items)
