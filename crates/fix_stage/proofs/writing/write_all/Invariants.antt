use Rattle.std.proofs.Common.{◌≡◌, drop}
use Rattle.fix_stage.specs.Flush.{WroteOne}
use Rattle.fix_stage.proofs.FoldLemmas.{SoFar}
use Rattle.fix_stage.proofs.writing.write_all.Given as goal

abbrev pub invariant-loop-frame : goal.invariant-loop-frame
invariant-loop-frame g l = record {
  opens : (g.O.Outside.seen l.o).open_at ≡ (g.O.Outside.seen l.initial.o).open_at;
  done : SoFar WroteOne (g.O.Outside.seen l.initial.o) (g.O.Outside.seen l.o) tt l.frames tt (drop l.frame-index l.frames);
}
