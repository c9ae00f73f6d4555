use Rattle.std.proofs.Common.{Some, length}
use Rattle.fix_session.specs.Judged.{rules_seen}
use Rattle.fix_session.specs.State.{IsSound}
use Rattle.fix_session.proofs.TakenLemmas.{Left, at}
use Rattle.fix_session.proofs.turn.receive_all.Given as goal

abbrev pub invariant-loop-frame : goal.invariant-loop-frame
invariant-loop-frame g l = record {
  sound : IsSound l.context.identity (g.O.Outside.seen l.o) (Some l.state.sender.numbers.last) l.state;
  done : Left l.context.identity (rules_seen l.rules) (at l.initial.state l.initial.reader.unread) (g.O.Outside.seen l.initial.o)
      (g.O.Outside.seen l.o) (at l.state l.reader.unread);
}

abbrev pub decreases-loop-frame : goal.decreases-loop-frame
decreases-loop-frame g l = length l.reader.unread.bytes
