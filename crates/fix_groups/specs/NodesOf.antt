-- The nodes that a list of them, or of trees, stands for.
use Rattle.std.specs.Prelude.{List, [], ◌∷◌}
use Rattle.fix_groups.specs.Nodes.{Nodes, stop, field, group, item}
use Rattle.fix_groups.specs.declared.tree.Node.{Node}
use Rattle.fix_groups.specs.declared.tree.Node.TheVariants.{Plain, Group}

abbrev pub items_of : List Nodes → Nodes
items_of [] = stop
items_of (t ∷ ts) = item t (items_of ts)

abbrev pub nodes_of : List Node → Nodes
nodes_of [] = stop
nodes_of (Plain t v ∷ ns) = field t v (nodes_of ns)
nodes_of (Group c is ∷ ns) = group c (items_of is.items) (nodes_of ns)
