use Rattle.fix_outside.proofs.CallLemmas.{Called-nil}
use Rattle.fix_machine.specs.Event as events
use Rattle.fix_session.specs.Turn.{not_cut, is_cut, cut_memory}
use Rattle.fix_session.proofs.turn.leave.Goals as goal

pub returns-then-not-cut-clause-calls : goal.returns-then-not-cut-clause-calls
returns-then-not-cut-clause-calls g c =
    (_, Called-nil _, rw (c.if-not-cut.true, c.resume.ensures, c.decide.ensures.next _ events.ends, c.put_down.ensures.down) not_cut)

pub returns-in-Ok-clause-calls : goal.returns-in-Ok-clause-calls
returns-in-Ok-clause-calls g c =
    (_, c.in-Ok.ensures.called, rw (c.if-not-cut.false, c.resume.ensures, c.decide.ensures.next _ events.ends, c.put_down.ensures.down) is_cut)

pub returns-in-Err-clause-calls : goal.returns-in-Err-clause-calls
returns-in-Err-clause-calls g c =
    (_, c.in-Err.ensures.called, rw (c.if-not-cut.false, c.resume.ensures, c.decide.ensures.next _ events.ends, c.put_down.ensures.down) (cut_memory _))
