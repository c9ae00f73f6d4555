use Rattle.std.proofs.Common.{◌≡◌, ◌<◌, ◌-◌, Some, replicate}
use Rattle.fix_stage.proofs.FoldLemmas.{SoFar}
use Rattle.fix_session.specs.Judged.{rules_seen}
use Rattle.fix_session.specs.Work.{work_seen, IsWorkable}
use Rattle.fix_session.specs.Turn.{OneTurn}
use Rattle.fix_session.proofs.turn.take_turns.Given as goal

abbrev pub invariant-loop-done : goal.invariant-loop-done
invariant-loop-done g l = record {
  kept : 0 < l.done → l.work.state.sender.numbers.stored_expected ≡ l.work.state.sender.numbers.expected;
  workable : IsWorkable l.context.identity (g.O.Outside.seen l.o) (Some l.work.state.sender.numbers.last) l.work;
  done : SoFar (OneTurn l.context.identity (rules_seen l.rules)) (g.O.Outside.seen l.initial.o) (g.O.Outside.seen l.o)
      (work_seen l.initial.work) (replicate l.turns tt) (work_seen l.work) (replicate (l.turns - l.done) tt);
}
