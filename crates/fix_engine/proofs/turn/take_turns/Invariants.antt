use Rattle.std.proofs.Common.{◌-◌, Some, replicate}
use Rattle.fix_engine.specs.Turn.{work_seen, IsReadyToTurn, OneTurn}
use Rattle.fix_engine.proofs.FoldLemmas.{SoFar}
use Rattle.fix_engine.proofs.turn.take_turns.Given as goal

abbrev pub invariant-loop-done : goal.invariant-loop-done
invariant-loop-done g l = record {
  ready : IsReadyToTurn l.context.identity (g.O.Outside.seen l.o) (Some l.work.state.last) l.work;
  done : SoFar (OneTurn l.context.identity) (g.O.Outside.seen l.initial.o) (g.O.Outside.seen l.o)
      (work_seen l.initial.work) (replicate l.turns tt) (work_seen l.work) (replicate (l.turns - l.done) tt);
}
