use Rattle.std.proofs.Common.{Some, length}
use Rattle.fix_engine.specs.Ready.{IsReady}
use Rattle.fix_engine.specs.Reading.{connection_seen}
use Rattle.fix_engine.proofs.TakenLemmas.{Left}
use Rattle.fix_engine.proofs.handling.answer_frames.Given as goal

abbrev pub invariant-loop-frame : goal.invariant-loop-frame
invariant-loop-frame g l = record {
  ready : IsReady l.context.identity (g.O.Outside.seen l.o) (Some l.state.last) l.state;
  done : Left l.context.identity (connection_seen l.initial.state l.initial.reader.unread) (g.O.Outside.seen l.initial.o)
      (g.O.Outside.seen l.o) (connection_seen l.state l.reader.unread);
}

abbrev pub decreases-loop-frame : goal.decreases-loop-frame
decreases-loop-frame g l = length l.reader.unread.bytes
