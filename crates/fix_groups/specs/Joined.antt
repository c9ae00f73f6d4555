-- The members of layouts that stand one after another.
use Rattle.fix_fields.specs.Shapes.{Shapes, no_more, plain, group}

abbrev pub joined : Shapes → Shapes → Shapes
joined no_more more = more
joined (plain t r ms) more = plain t r (joined ms more)
joined (group c r inner ms) more = group c r inner (joined ms more)
