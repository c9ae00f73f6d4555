use Rattle.std.proofs.Common.{sym, ◌∙◌}
use Rattle.fix_outside.proofs.CallLemmas.{Called-nil}
use Rattle.fix_stage.specs.Staging.{fits, full}
use Rattle.fix_stage.proofs.numbering.make_room.Goals as goal

pub returns-then-has_room-clause-calls : goal.returns-then-has_room-clause-calls
returns-then-has_room-clause-calls g c = (_, Called-nil _, fits (sym c.has_room.ensures ∙ c.if-has_room.true))

pub returns-clause-calls : goal.returns-clause-calls
returns-clause-calls g c =
    let h = c.flush.ensures.calls in
    (h.0, h.1, full (sym c.has_room.ensures ∙ c.if-has_room.false) h.2)
