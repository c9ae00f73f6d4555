use Rattle.std.proofs.Common.{take}
use Rattle.fix_frame.proofs.Drains.{Read}
use Rattle.fix_frame.proofs.whole.frames_of.Given as goal

abbrev pub invariant-loop-piece : goal.invariant-loop-piece
invariant-loop-piece l = Read (take l.piece-index l.pieces) l.reader.unread l.out.items
