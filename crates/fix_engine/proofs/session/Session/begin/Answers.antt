use Rattle.fix_base.proofs.SeenLemmas.{Trace-nil}
use Rattle.std.specs.Prelude.{None}
use Rattle.fix_engine.specs.Reading.{connection_seen}
use Rattle.fix_engine.specs.Run.{no_memory}
use Rattle.fix_engine.proofs.BeginLemmas.{begins_ok, begins_err}
use Rattle.fix_engine.proofs.InStepLemmas.{opened_lawful, opened_in_step, opened_stands, opened_connected, opened_trails, not_opened_lawful, not_opened_trails, refused_lawful, refused_trails}
use Rattle.fix_engine.proofs.session.Session.begin.Goals as goal

pub returns-in-Err-clause-begins : goal.returns-in-Err-clause-begins
returns-in-Err-clause-begins g c = rw (← c.self.view_is, c.in_default.is) (_, Trace-nil _, no_memory)

pub returns-in-Ok-open_connection-clause-begins : goal.returns-in-Ok-open_connection-clause-begins
returns-in-Ok-open_connection-clause-begins g c =
    let h = c.in-Ok-open_connection.ensures.notes in
    rw (← c.self.view_is, c.in_default.is, c.take_reading.ensures.taken, c.in-Ok.ensures) (h.0, h.1, begins_ok _ _ _ _ h.2)

pub returns-in-Err-open_connection-clause-begins : goal.returns-in-Err-open_connection-clause-begins
returns-in-Err-open_connection-clause-begins g c =
    let h = c.in-Err-open_connection.ensures.notes in
    rw (← c.self.view_is, c.in_default.is) (h.0, h.1, begins_err _ _ _ h.2)

pub returns-in-Err-clause-lawful : goal.returns-in-Err-clause-lawful
returns-in-Err-clause-lawful g c = rw (← c.self.view_is, c.in_default.is) (refused_lawful (record { identity = c.self.inside.context.identity; connection = connection_seen c.self.inside.work.state c.self.inside.work.reader.unread; pending = c.self.inside.work.pending; stopped = None }) _)

pub returns-in-Ok-open_connection-clause-lawful : goal.returns-in-Ok-open_connection-clause-lawful
returns-in-Ok-open_connection-clause-lawful g c =
    rw (← c.self.view_is, c.in_default.is, c.take_reading.ensures.taken, c.in-Ok.ensures) (opened_lawful (record { identity = c.self.inside.context.identity; connection = connection_seen c.self.inside.work.state c.self.inside.work.reader.unread; pending = c.self.inside.work.pending; stopped = None }) _ _ _ c.in-Ok-open_connection.ensures.notes)

pub returns-in-Err-open_connection-clause-lawful : goal.returns-in-Err-open_connection-clause-lawful
returns-in-Err-open_connection-clause-lawful g c = rw (← c.self.view_is, c.in_default.is) (not_opened_lawful (record { identity = c.self.inside.context.identity; connection = connection_seen c.self.inside.work.state c.self.inside.work.reader.unread; pending = c.self.inside.work.pending; stopped = None }) _ _ _ c.in-Err-open_connection.ensures.notes)

pub returns-in-Ok-open_connection-clause-in_step : goal.returns-in-Ok-open_connection-clause-in_step
returns-in-Ok-open_connection-clause-in_step g c =
    rw (← c.self.view_is, c.in_default.is, c.take_reading.ensures.taken, c.in-Ok.ensures) (opened_in_step (record { identity = c.self.inside.context.identity; connection = connection_seen c.self.inside.work.state c.self.inside.work.reader.unread; pending = c.self.inside.work.pending; stopped = None }) _ _ _ c.in-Ok-open_connection.ensures.opens c.in-Ok-open_connection.ensures.notes)

pub returns-in-Ok-open_connection-clause-connected : goal.returns-in-Ok-open_connection-clause-connected
returns-in-Ok-open_connection-clause-connected g c =
    rw (← c.self.view_is, c.in_default.is, c.take_reading.ensures.taken, c.in-Ok.ensures) (opened_connected (record { identity = c.self.inside.context.identity; connection = connection_seen c.self.inside.work.state c.self.inside.work.reader.unread; pending = c.self.inside.work.pending; stopped = None }) _ _ _ c.in-Ok-open_connection.ensures.opens c.in-Ok-open_connection.ensures.notes)

pub returns-in-Ok-open_connection-clause-stands : goal.returns-in-Ok-open_connection-clause-stands
returns-in-Ok-open_connection-clause-stands g c =
    rw (c.in_default.is, c.take_reading.ensures.taken, c.in-Ok.ensures) (opened_stands (record { identity = c.self.inside.context.identity; connection = connection_seen c.self.inside.work.state c.self.inside.work.reader.unread; pending = c.self.inside.work.pending; stopped = None }) _ _ _ c.in-Ok-open_connection.ensures.opens c.in-Ok-open_connection.ensures.notes (rw (← c.self.view_is, c.in_default.is) at c.requires.in_step))

pub returns-in-Err-clause-trails : goal.returns-in-Err-clause-trails
returns-in-Err-clause-trails g c = rw (← c.self.view_is, c.in_default.is) (refused_trails (record { identity = c.self.inside.context.identity; connection = connection_seen c.self.inside.work.state c.self.inside.work.reader.unread; pending = c.self.inside.work.pending; stopped = None }) _)

pub returns-in-Ok-open_connection-clause-trails : goal.returns-in-Ok-open_connection-clause-trails
returns-in-Ok-open_connection-clause-trails g c =
    rw (← c.self.view_is, c.in_default.is, c.take_reading.ensures.taken, c.in-Ok.ensures) (opened_trails (record { identity = c.self.inside.context.identity; connection = connection_seen c.self.inside.work.state c.self.inside.work.reader.unread; pending = c.self.inside.work.pending; stopped = None }) _ _ _ c.in-Ok-open_connection.ensures.notes)

pub returns-in-Err-open_connection-clause-trails : goal.returns-in-Err-open_connection-clause-trails
returns-in-Err-open_connection-clause-trails g c = rw (← c.self.view_is, c.in_default.is) (not_opened_trails (record { identity = c.self.inside.context.identity; connection = connection_seen c.self.inside.work.state c.self.inside.work.reader.unread; pending = c.self.inside.work.pending; stopped = None }) _ _ _ c.in-Err-open_connection.ensures.notes)
