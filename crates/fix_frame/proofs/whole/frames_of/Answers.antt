use Rattle.std.proofs.Common.{◌∙◌, ap, subst}
use Rattle.std.proofs.lemmas.List.{take_all}
use Rattle.fix_base.proofs.Runs.{with_more}
use Rattle.fix_frame.proofs.Drains.{Read, read_piece, read_one, read_all}
use Rattle.fix_frame.proofs.whole.frames_of.Goals as goal

pub loop-piece-preserved : goal.loop-piece-preserved
loop-piece-preserved c =
    read_piece c.args.pieces.now c.loop-piece.piece-index c.piece-item.result c.loop-piece.reader.unread c.feed.new.self.unread c.drain.new.reader.unread _ _ c.loop-piece-test.true c.piece-item.is c.loop-piece.invariant
    (c.in_ok-feed.ensures.ok ∙ ap (λ w. with_more c.loop-piece.reader.unread w) c.as_slice.ensures) c.in_ok-drain.ensures

pub returns-clause-are : goal.returns-clause-are
returns-clause-are c = read_all c.args.pieces.now c.loop-piece.reader.unread c.loop-piece.out.items (subst (λ ps. Read ps c.loop-piece.reader.unread c.loop-piece.out.items) (take_all c.loop-piece.piece-index c.args.pieces.now c.loop-piece-test.false) c.loop-piece.invariant)

pub returns-clause-only : goal.returns-clause-only
returns-clause-only c = read_one c.args.pieces.now c.loop-piece.reader.unread c.loop-piece.out.items (subst (λ ps. Read ps c.loop-piece.reader.unread c.loop-piece.out.items) (take_all c.loop-piece.piece-index c.args.pieces.now c.loop-piece-test.false) c.loop-piece.invariant)
