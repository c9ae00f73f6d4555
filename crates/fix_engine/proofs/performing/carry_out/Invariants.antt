use Rattle.std.proofs.Common.{Some, drop}
use Rattle.fix_engine.specs.Ready.{IsReady}
use Rattle.fix_engine.specs.Answer.{Performed}
use Rattle.fix_engine.proofs.FoldLemmas.{SoFar}
use Rattle.fix_engine.proofs.performing.carry_out.Given as goal

abbrev pub invariant-loop-step : goal.invariant-loop-step
invariant-loop-step g l = record {
  ready : IsReady l.context.identity (g.O.Outside.seen l.o) (Some l.state.last) l.state;
  done : SoFar (Performed l.context.identity l.inbound.frame.now) (g.O.Outside.seen l.initial.o) (g.O.Outside.seen l.o)
      l.initial.state l.steps l.state (drop l.step-index l.steps);
}
