use Rattle.std.proofs.Common.{◌-◌, ◌≤◌, Some}
use Rattle.fix_stage.specs.Sender.{IsReady}
use Rattle.fix_stage.specs.Serving.{ServedOne, numbers}
use Rattle.fix_stage.proofs.FoldLemmas.{SoFar}
use Rattle.fix_stage.proofs.serving.serve_all.Given as goal

abbrev pub invariant-loop-number : goal.invariant-loop-number
invariant-loop-number g l = record {
  ready : IsReady l.context.identity (g.O.Outside.seen l.o) (Some l.sender.numbers.last) l.sender;
  low : l.gap ≤ l.sender.numbers.last;
  done : SoFar (ServedOne l.context.identity l.sender.numbers.reading) (g.O.Outside.seen l.initial.o)
      (g.O.Outside.seen l.o) l.initial.gap (numbers l.from (l.end - l.from)) l.gap (numbers l.number (l.end - l.number));
}
