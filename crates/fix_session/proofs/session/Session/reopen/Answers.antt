use Rattle.std.proofs.Common.{Ok, Err}
use Rattle.fix_session.specs.Session.{again, not_again}
use Rattle.fix_session.proofs.session.Session.reopen.Goals as goal

pub returns-in-Ok-clause-calls : goal.returns-in-Ok-clause-calls
returns-in-Ok-clause-calls g c =
    rw (← c.self.view_is, c.resume.ensures.is) (Ok c.in-Ok.stored, c.in-Ok.ensures.answers, (_, c.in-Ok.ensures.called, again c.in-Ok.stored))

pub returns-in-Err-clause-calls : goal.returns-in-Err-clause-calls
returns-in-Err-clause-calls g c =
    rw (← c.self.view_is, c.load_stop.ensures) (Err c.in-Err.fault, c.in-Err.ensures.answers, (_, c.in-Err.ensures.called, not_again c.in-Err.fault))
