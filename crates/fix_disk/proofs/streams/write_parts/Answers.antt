use Rattle.std.proofs.Common.{arith, length-drop}
use Rattle.fix_disk.proofs.StreamLemmas.{Appends-Appends, take-more}
use Rattle.fix_disk.proofs.streams.write_parts.Goals as goal

pub loop-preserved : goal.loop-preserved
loop-preserved g c = record {
  in_bytes = grind (arith, length-drop, c.in-Some.ensures.count);
  bytes = rw take-more (Appends-Appends _ (g.W.Write.contents c.loop.output) _ _ _ c.loop.invariant.bytes c.in-Some.ensures.bytes);
}
