-- A layout inside a group is smaller than the one around it.
use Rattle.std.specs.Prelude.{◌≤◌, List, [], ◌∷◌, max}
use Rattle.std.proofs.Common.{arith}
use denote.Param.Weighed.{most}
use Rattle.fix_fields.specs.Shapes.{shapes_size}
use Rattle.fix_fields.specs.Members.{shapes_of}
use Rattle.fix_fields.specs.declared.layout.Member.{Member}
use Rattle.fix_fields.specs.declared.layout.Member.TheVariants.{Plain, Group}
use Rattle.fix_fields.specs.declared.layout.Layout.TheDeep.{deep-Member}

pub layout_falls : (ms : List Member) → max (most deep-Member ms) 0 ≤ shapes_size (shapes_of ms)
layout_falls [] = omega arith
layout_falls (Plain tag required ∷ ms) = omega (arith, layout_falls ms)
layout_falls (Group count required inner ∷ ms) = omega (arith, layout_falls ms)
