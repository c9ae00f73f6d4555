use Rattle.std.proofs.Common.{length}
use Rattle.fix_frame.proofs.Drains.{Gave}
use Rattle.fix_frame.proofs.whole.drain.Given as goal

abbrev pub invariant-loop-frame : goal.invariant-loop-frame
invariant-loop-frame l = Gave l.initial.reader.unread l.reader.unread l.initial.out.items l.out.items

abbrev pub decreases-loop-frame : goal.decreases-loop-frame
decreases-loop-frame l = length l.reader.unread.bytes
