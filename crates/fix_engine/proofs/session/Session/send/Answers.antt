use Rattle.std.specs.Prelude.{None}
use Rattle.fix_base.proofs.SeenLemmas.{Trace-nil}
use Rattle.fix_engine.specs.Drafted.{spent}
use Rattle.fix_engine.specs.Reading.{connection_seen}
use Rattle.fix_engine.proofs.SendLemmas.{sent_goes, send_lawful, send_in_step, send_stands, send_trails, send_connected, send_has_cause}
use Rattle.fix_engine.proofs.LookBackLemmas.{send_from_here}
use Rattle.fix_engine.proofs.EndedLemmas.{send_stops_down}
use Rattle.fix_engine.proofs.session.Session.send.Goals as goal

pub invariant_of-self : goal.invariant_of-self
invariant_of-self g c = (
  c.self.invariant.0,
  c.send_and_cut-sent.ensures.ready.range,
  c.self.invariant.2,
  λ goes_on. c.self.invariant.3 c.in_default.is,
  rw c.stop_of_sent-self-inside.ensures (send_stops_down _ _ _ _ _ _ c.send_and_cut-sent.ensures.notes.2),
)

pub returns-then-self-ge-LAST_SEQ_NUM-clause-sends : goal.returns-then-self-ge-LAST_SEQ_NUM-clause-sends
returns-then-self-ge-LAST_SEQ_NUM-clause-sends g c = rw (← c.self.view_is, c.in_default.is) (_, Trace-nil _, spent c.if-self-ge-LAST_SEQ_NUM.true)

pub returns-then-self-ge-LAST_SEQ_NUM-clause-lawful : goal.returns-then-self-ge-LAST_SEQ_NUM-clause-lawful
returns-then-self-ge-LAST_SEQ_NUM-clause-lawful g c =
    rw (← c.self.view_is, c.in_default.is) (send_lawful _ c.args.draft.now _ _ _ _ _ (_, Trace-nil _, spent c.if-self-ge-LAST_SEQ_NUM.true))

pub returns-clause-sends : goal.returns-clause-sends
returns-clause-sends g c = rw (← c.self.view_is, c.in_default.is) (sent_goes _ _ _ c.self.inside.work.reader.unread _ _ _ _ c.if-self-ge-LAST_SEQ_NUM.false c.send_and_cut-sent.ensures.notes)

pub returns-clause-cause : goal.returns-clause-cause
returns-clause-cause g c =
    rw (← c.self.view_is, c.in_default.is) (send_has_cause _ _ _ _ _ _ _ (sent_goes _ _ _ c.self.inside.work.reader.unread _ _ _ _ c.if-self-ge-LAST_SEQ_NUM.false c.send_and_cut-sent.ensures.notes))

pub returns-clause-lawful : goal.returns-clause-lawful
returns-clause-lawful g c =
    rw (← c.self.view_is, c.in_default.is) (send_lawful _ _ _ _ _ _ _ (sent_goes _ _ _ c.self.inside.work.reader.unread _ _ _ _ c.if-self-ge-LAST_SEQ_NUM.false c.send_and_cut-sent.ensures.notes))

pub returns-clause-in_step : goal.returns-clause-in_step
returns-clause-in_step g c =
    rw (← c.self.view_is, c.in_default.is, c.stop_of_sent-self-inside.ensures) (send_in_step _ (record { identity = c.self.inside.context.identity; connection = connection_seen c.self.inside.work.state c.self.inside.work.reader.unread; pending = c.self.inside.work.pending; stopped = None }) _ _ _ _ c.send_and_cut-sent.ensures.ready.opens (sent_goes _ _ _ c.self.inside.work.reader.unread _ _ _ _ c.if-self-ge-LAST_SEQ_NUM.false c.send_and_cut-sent.ensures.notes))

pub returns-clause-trails : goal.returns-clause-trails
returns-clause-trails g c =
    rw (← c.self.view_is, c.in_default.is) (send_trails _ (record { identity = c.self.inside.context.identity; connection = connection_seen c.self.inside.work.state c.self.inside.work.reader.unread; pending = c.self.inside.work.pending; stopped = None }) _ _ _ _ _ (sent_goes _ _ _ c.self.inside.work.reader.unread _ _ _ _ c.if-self-ge-LAST_SEQ_NUM.false c.send_and_cut-sent.ensures.notes))

pub returns-clause-stands : goal.returns-clause-stands
returns-clause-stands g c =
    rw c.stop_of_sent-self-inside.ensures (send_stands _ (record { identity = c.self.inside.context.identity; connection = connection_seen c.self.inside.work.state c.self.inside.work.reader.unread; pending = c.self.inside.work.pending; stopped = None }) _ _ _ _ c.send_and_cut-sent.ensures.ready.opens (sent_goes _ _ _ c.self.inside.work.reader.unread _ _ _ _ c.if-self-ge-LAST_SEQ_NUM.false c.send_and_cut-sent.ensures.notes) (rw (← c.self.view_is, c.in_default.is) at c.requires.in_step))

pub returns-clause-connected : goal.returns-clause-connected
returns-clause-connected g c =
    rw (← c.self.view_is) (send_connected _ (record { identity = c.self.inside.context.identity; connection = connection_seen c.self.inside.work.state c.self.inside.work.reader.unread; pending = c.self.inside.work.pending; stopped = c.self.inside.stopped }) _ _ _ _ _ c.send_and_cut-sent.ensures.ready.opens (sent_goes _ _ _ c.self.inside.work.reader.unread _ _ _ _ c.if-self-ge-LAST_SEQ_NUM.false c.send_and_cut-sent.ensures.notes))

pub returns-clause-from_here : goal.returns-clause-from_here
returns-clause-from_here g c =
    rw (← c.self.view_is, c.in_default.is) (send_from_here _ _ _ _ _ _ _ (sent_goes _ _ _ c.self.inside.work.reader.unread _ _ _ _ c.if-self-ge-LAST_SEQ_NUM.false c.send_and_cut-sent.ensures.notes))
