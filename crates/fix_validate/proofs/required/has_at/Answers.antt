use Rattle.std.proofs.Common.{◌∙◌, sym, arith}
use Rattle.std.proofs.lemmas.Bool.{eqb-true}
use Rattle.fix_validate.proofs.SeatLemmas.{there_of}
use Rattle.fix_validate.proofs.required.has_at.Goals as goal

pub returns : goal.returns
returns c = λ yes. there_of c.args.tag c.args.fields.now _ c.index-fields-seat.result (omega arith) c.index-fields-seat.is (sym c.tag.ensures ∙ eqb-true c.tag.result c.args.tag (sym c.eq.ensures ∙ yes))
