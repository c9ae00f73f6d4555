use Rattle.std.proofs.Common.{Some}
use Rattle.std.specs.FinMap as map
use Rattle.fix_session.specs.Judged.{rules_seen}
use Rattle.fix_session.specs.State.{IsSound}
use Rattle.fix_session.proofs.CatchLemmas.{Left}
use Rattle.fix_session.proofs.answering.catch_up.Given as goal

abbrev pub invariant-loop-frame : goal.invariant-loop-frame
invariant-loop-frame g l = record {
  sound : IsSound l.context.identity (g.O.Outside.seen l.o) (Some l.state.sender.numbers.last) l.state;
  done : Left l.context.identity (rules_seen l.rules) l.initial.state (g.O.Outside.seen l.initial.o) (g.O.Outside.seen l.o) l.state;
}

abbrev pub decreases-loop-frame : goal.decreases-loop-frame
decreases-loop-frame g l = map.len l.state.waiting
