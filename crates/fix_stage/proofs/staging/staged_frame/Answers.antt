use Rattle.fix_stage.specs.Outgoing.{unwritten, framed}
use Rattle.fix_stage.proofs.staging.staged_frame.Goals as goal

pub returns-then-not-written : goal.returns-then-not-written
returns-then-not-written c = unwritten c.if-not-written.true

pub returns : goal.returns
returns c =
    let h = c.in_ok-frame.ensures in
    framed _ c.if-not-written.false (record { header = h.header; heads = h.heads; spelled = h.spelled })
