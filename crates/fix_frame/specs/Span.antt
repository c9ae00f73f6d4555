-- What decides whether bytes whose fixed places are right are a frame.
use Rattle.fix_base.specs.Shape.{Parts}
use Rattle.fix_frame.specs.declared.shape.Span.{Span}

abbrev pub parts_of : Span → Parts
parts_of span = record { before_sum = span.before_sum.now; body = span.body.now; sum = span.sum }
