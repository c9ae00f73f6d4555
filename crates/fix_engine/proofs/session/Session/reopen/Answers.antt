use Rattle.std.proofs.Common.{Ok, Err}
use Rattle.std.specs.Prelude.{⊤}
use Rattle.fix_engine.specs.Reading.{connection_seen}
use Rattle.fix_engine.specs.Run.{again, refused_again}
use Rattle.fix_engine.proofs.BeginLemmas.{load_cause}
use Rattle.fix_engine.proofs.InStepLemmas.{again_in_step, again_stands, refused_trail}
use Rattle.fix_engine.proofs.session.Session.reopen.Goals as goal

pub returns-in-Ok-clause-loads : goal.returns-in-Ok-clause-loads
returns-in-Ok-clause-loads g c =
    rw (← c.self.view_is, c.state_from-self-inside.ensures.numbers, c.settle_pending.ensures) (Ok c.in-Ok.stored, c.in-Ok.ensures.answers, (_, c.in-Ok.ensures.noted, again c.in-Ok.stored))

pub returns-in-Ok-clause-stands : goal.returns-in-Ok-clause-stands
returns-in-Ok-clause-stands g c =
    rw (c.state_from-self-inside.ensures.numbers, c.settle_pending.ensures) (again_stands (record { identity = c.self.inside.context.identity; connection = connection_seen c.self.inside.work.state c.self.inside.work.reader.unread; pending = c.self.inside.work.pending; stopped = c.self.inside.stopped }) c.in-Ok.stored _ _ c.in-Ok.ensures.answers c.in-Ok.ensures.noted c.in-Ok.ensures.opens)

pub returns-in-Ok-clause-in_step : goal.returns-in-Ok-clause-in_step
returns-in-Ok-clause-in_step g c =
    rw (← c.self.view_is, c.state_from-self-inside.ensures.numbers, c.settle_pending.ensures) (again_in_step (record { identity = c.self.inside.context.identity; connection = connection_seen c.self.inside.work.state c.self.inside.work.reader.unread; pending = c.self.inside.work.pending; stopped = c.self.inside.stopped }) c.in-Ok.stored _ _ c.in-Ok.ensures.answers c.in-Ok.ensures.noted c.in-Ok.ensures.opens)

pub returns-in-Err-clause-loads : goal.returns-in-Err-clause-loads
returns-in-Err-clause-loads g c =
    rw (← c.self.view_is, c.stop_by.ensures) (Err c.in-Err.fault, c.in-Err.ensures.answers, (_, c.in-Err.ensures.noted, refused_again c.in-Err.fault))

pub returns-in-Err-clause-cause : goal.returns-in-Err-clause-cause
returns-in-Err-clause-cause g c = load_cause ⊤ c.in-Err.fault _ _ c.in-Err.ensures.noted

pub returns-in-Err-clause-trails : goal.returns-in-Err-clause-trails
returns-in-Err-clause-trails g c =
    rw (← c.self.view_is) (refused_trail (record { identity = c.self.inside.context.identity; connection = connection_seen c.self.inside.work.state c.self.inside.work.reader.unread; pending = c.self.inside.work.pending; stopped = c.self.inside.stopped }) c.in-Err.fault _ _ _ c.in-Err.ensures.noted)
