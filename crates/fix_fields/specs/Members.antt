-- A layout's members as its shape: the layout inside a group is one already.
use Rattle.std.specs.Prelude.{List, [], ◌∷◌}
use Rattle.fix_fields.specs.Shapes.{Shapes, no_more, plain, group}
use Rattle.fix_fields.specs.declared.layout.Member.{Member}
use Rattle.fix_fields.specs.declared.layout.Member.TheVariants.{Plain, Group}

abbrev pub shapes_of : List Member → Shapes
shapes_of [] = no_more
shapes_of (Plain tag required ∷ ms) = plain tag required (shapes_of ms)
shapes_of (Group count required inner ∷ ms) = group count required inner (shapes_of ms)
